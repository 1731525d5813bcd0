-- what a reader must believe, in this order
pub mod Rows
pub mod Standing
pub mod Laws
-- what only ties code to it
pub mod Found
