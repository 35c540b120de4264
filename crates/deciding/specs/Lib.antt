pub mod Decide
pub mod Regions
pub mod Distance
pub mod Sizes
pub mod Laws
