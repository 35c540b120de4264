pub mod RefusalLaws
pub mod AnswerLaws
pub mod SendLaws
pub mod OpenLaws
pub mod StateLaws
pub mod JoinLaws
pub mod DataLaws
