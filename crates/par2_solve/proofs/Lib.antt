mod Common
pub mod Combinations
pub mod Rebuilding
pub mod Windows
pub mod Inverting
mod Names
