mod Common
pub mod BlockLaws
pub mod LaneLaws
mod Names
