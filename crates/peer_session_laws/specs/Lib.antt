-- what a reader must believe, in this order
pub mod Events
pub mod Sessions
pub mod Runs
pub mod Own
pub mod Open
pub mod Once
pub mod Closed
