pub mod Memory
pub mod Fuse
