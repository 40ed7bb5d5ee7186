pub mod Plans
pub mod Stock
pub mod Begin
pub mod End
pub mod Steps
pub mod Order
