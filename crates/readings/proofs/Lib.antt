pub mod ReadingLaws
pub mod LevelLaws
