pub mod Polynomial
pub mod Block
pub mod Laws
pub mod Register
