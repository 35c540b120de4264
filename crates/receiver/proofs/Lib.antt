pub mod OutcomeLaws
pub mod CallLaws
pub mod TurnLaws
pub mod ShapeLaws
pub mod Example
