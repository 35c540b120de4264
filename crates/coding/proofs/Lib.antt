pub mod CodeLaws
pub mod ModeLaws
pub mod RowLaws
