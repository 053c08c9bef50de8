pub mod Polynomials
pub mod Chirps
pub mod Rows
pub mod Outputs
pub mod Locators
