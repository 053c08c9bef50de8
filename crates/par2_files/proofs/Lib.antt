mod Common
pub mod Lists
pub mod SortedFiles
pub mod Walks
mod Names
