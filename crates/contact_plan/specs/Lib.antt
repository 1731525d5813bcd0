-- What public clauses cite, in reading order.
pub mod Windows
pub mod Fault
pub mod Laws
-- What only ties code to it.
pub mod Kept
