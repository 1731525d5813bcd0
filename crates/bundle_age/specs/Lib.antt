-- what a reader must believe, in this order
pub mod Raised
pub mod Laws
