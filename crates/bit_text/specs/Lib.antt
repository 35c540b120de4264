pub mod BitText
pub mod Laws
