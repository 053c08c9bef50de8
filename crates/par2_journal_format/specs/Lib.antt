pub mod Journals
pub mod Walking
