pub mod CoderLaws
pub mod MiddleLaws
pub mod TrainingLaws
pub mod AheadLaws
pub mod Bench
