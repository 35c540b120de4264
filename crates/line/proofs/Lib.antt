pub mod ByMode
pub mod Tests
pub mod TableLaws
pub mod Signed
pub mod PointLaws
pub mod StateLaws
pub mod RefusalLaws
pub mod Sets
