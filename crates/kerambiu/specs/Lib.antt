pub mod Counted
pub mod Summing
pub mod Blocks
