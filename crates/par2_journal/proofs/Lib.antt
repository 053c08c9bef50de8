mod Common
pub mod Readiness
mod Openings
pub mod Entries
mod Names
