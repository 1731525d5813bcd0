-- what public clauses cite
pub mod Closed
pub mod FewItems
pub mod Effects
pub mod Refused
pub mod Values
pub mod Sessions
pub mod Shows
pub mod Bounds
pub mod Quiet
pub mod Steps
pub mod Elsewhere
-- what an engine hands up, whoever is at the other end
pub mod RedParts
-- what ties the code to it
pub mod Ticks
pub mod Notes
pub mod Tables
pub mod Inbound
pub mod Wants
pub mod Sides
pub mod Ties
