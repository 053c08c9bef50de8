mod Common
pub mod TableLaws
pub mod Words
mod Names
