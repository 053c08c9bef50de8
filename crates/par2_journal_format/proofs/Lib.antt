mod Common
pub mod Fields
pub mod Whole
pub mod Walks
mod TriedNames
mod Names
