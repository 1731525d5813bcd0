-- What a reader must believe, in this order.
pub mod Sessions
pub mod Steps
pub mod Serves
