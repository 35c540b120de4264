pub mod FirstLaws
pub mod BlockLaws
pub mod BackLaws
pub mod NumberLaws
pub mod SkipLaws
