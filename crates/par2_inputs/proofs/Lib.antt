pub mod Common
pub mod FileRecords
pub mod IndexBytes
pub mod Refusals
pub mod VolumeNames
mod Steps
mod Names
