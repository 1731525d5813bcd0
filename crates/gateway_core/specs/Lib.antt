-- a gate, and what it does
pub mod Gate
-- what its faces hand up, whoever is at the other ends
pub mod Comings
pub mod RedParts
-- what public clauses cite besides
pub mod Config
pub mod Notes
pub mod Effects
pub mod Values
pub mod Shows
pub mod Quiet
pub mod Steps
-- what ties the code to it
pub mod Ties
