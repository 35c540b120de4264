pub mod Sendings
pub mod Back
