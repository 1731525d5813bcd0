-- what a reader must believe, in this order
pub mod Gathered
pub mod Runs
pub mod Laws
-- what only ties code to it
pub mod Fronts
