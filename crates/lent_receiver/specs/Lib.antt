pub mod Receiving
pub mod Handing
