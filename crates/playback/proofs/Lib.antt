pub mod BlockLaws
pub mod CallLaws
