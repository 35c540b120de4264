pub mod Appending
pub mod Capturing
pub mod Keeping
pub mod Laws
