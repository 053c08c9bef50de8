mod Common
pub mod ElementTests
