pub mod BitLaws
pub mod WindowLaws
pub mod RegisterLaws
mod GuardLaws
pub mod GroupLaws
