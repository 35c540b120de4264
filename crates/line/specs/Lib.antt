pub mod Table
pub mod Mode
pub mod Point
pub mod Refusal
