pub mod Coder
pub mod Training
pub mod Middle
pub mod Ahead
pub mod Bench
