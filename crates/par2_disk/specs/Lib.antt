pub mod Stores
pub mod Directories
pub mod Runtime
