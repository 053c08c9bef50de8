mod Common
pub mod ChangesBack
