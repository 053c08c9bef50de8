pub mod Records
pub mod Causes
