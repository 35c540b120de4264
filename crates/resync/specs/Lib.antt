pub mod Assured
pub mod DataPoints
pub mod CallLists
pub mod Demand
pub mod RoundTrip
pub mod Instance
pub mod Bench
