pub mod Sender
pub mod Open
pub mod Calls
