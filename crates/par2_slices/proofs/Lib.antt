mod Common
pub mod Places
pub mod Checksums
pub mod Searching
pub mod Comparisons
pub mod FoundWindows
pub mod Matches
mod Names
