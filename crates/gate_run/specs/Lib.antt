-- What a reader must believe, in this order.
pub mod Comes
pub mod Course
pub mod Outcome
pub mod Laws
-- What only ties code to it.
pub mod Stages
