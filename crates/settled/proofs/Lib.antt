pub mod ByteLaws
pub mod RunLaws
pub mod PutLaws
pub mod CallLaws
pub mod AnswerLaws
pub mod Example
