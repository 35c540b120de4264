pub mod Capture
pub mod Skip
pub mod Laws
