mod Common
pub mod Steps
mod Names
