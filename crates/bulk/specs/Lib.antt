pub mod Block
pub mod Hearing
