pub mod SumLaws
pub mod Walks
