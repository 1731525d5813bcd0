-- what a reader must believe, in this order
pub mod Arrivals
pub mod Pieces
pub mod Cases
pub mod Rows
pub mod Laws
pub mod Promises
-- what only ties code to it
pub mod Sending
pub mod Items
