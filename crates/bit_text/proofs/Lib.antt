pub mod TextLaws
pub mod Reading
pub mod Example
