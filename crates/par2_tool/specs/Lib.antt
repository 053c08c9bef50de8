pub mod OpenedStores
pub mod Runs
