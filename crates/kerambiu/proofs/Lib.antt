pub mod CountedLaws
pub mod SummingLaws
pub mod BlocksLaws
pub mod SettledLaws
