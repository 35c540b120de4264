pub mod Code
pub mod Rule
pub mod Rows
pub mod Laws
