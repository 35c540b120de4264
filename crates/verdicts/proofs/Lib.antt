pub mod Digits
pub mod TextLaws
pub mod Writing
pub mod Calls
pub mod Example
