-- What public clauses cite, in reading order.
pub mod Own
pub mod Events
pub mod Counts
pub mod Named
pub mod Heads
pub mod Laws
-- What only ties code to it.
pub mod Said
pub mod Kept
