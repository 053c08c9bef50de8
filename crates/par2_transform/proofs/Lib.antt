mod Common
mod Subspaces
mod StepLaws
pub mod GridLaws
mod Chirps
mod BlockLaws
mod LocatorLaws
pub mod Additions
mod Names
