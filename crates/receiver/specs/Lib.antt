pub mod Reference
pub mod Receiver
pub mod Outcome
pub mod Calls
pub mod Turn
pub mod Laws
