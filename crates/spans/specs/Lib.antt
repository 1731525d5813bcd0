-- What public clauses cite, in reading order.
pub mod Places
pub mod Runs
pub mod Laws
-- What only ties code to it.
pub mod Growing
pub mod Chunks
pub mod Kept
