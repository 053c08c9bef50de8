pub mod Folders
pub mod Lending
pub mod Checkpoints
