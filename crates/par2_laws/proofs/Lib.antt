mod Common
mod Reading
mod SetsOfFiles
mod VolumePackets
mod VolumeFolders
mod Damage
pub mod RepairAnswers
pub mod UndoneFolders
