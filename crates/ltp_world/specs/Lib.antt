-- what public clauses cite
pub mod Ends
pub mod Refused
pub mod Values
pub mod Shows
pub mod Steps
pub mod RedParts
pub mod Drain
pub mod Picks
-- what ties the code to it
pub mod Ties
pub mod Work
pub mod Clean
pub mod Marks
