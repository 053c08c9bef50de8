pub mod Common
pub mod VerifyParts
mod ReportValues
mod Steps
mod Names
