pub mod EventLaws
pub mod CaptureLaws
pub mod CutLaws
pub mod BackLaws
