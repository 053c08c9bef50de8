mod Common
pub mod Systems
pub mod Promises
pub mod Combinations
pub mod Ranks
pub mod RunInverses
pub mod Windows
mod Names
