pub mod Sending
pub mod Putting
