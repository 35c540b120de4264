pub mod Receivings
pub mod Back
