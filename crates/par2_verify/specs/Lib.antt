pub mod ReportViews
pub mod Findings
