mod Common
pub mod Reading
pub mod Names
mod AnswerNames
