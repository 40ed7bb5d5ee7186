pub mod Grammar
pub mod Laws
pub mod Listed
pub mod Reading
