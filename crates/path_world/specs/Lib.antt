-- what public clauses cite
pub mod Values
pub mod Shows
pub mod Steps
pub mod HandedUp
pub mod Drain
-- what ties the code to it
pub mod Ties
pub mod Clean
pub mod Work
