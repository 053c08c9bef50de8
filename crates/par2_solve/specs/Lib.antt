pub mod BufferContents
pub mod Rebuilding
