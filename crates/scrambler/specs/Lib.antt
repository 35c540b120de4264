pub mod Bits
pub mod Register
pub mod Scramble
pub mod Group
pub mod Windows
pub mod Laws
