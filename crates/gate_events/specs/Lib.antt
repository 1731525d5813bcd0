-- What public clauses cite, in reading order.
pub mod Own
pub mod Events
pub mod Counts
pub mod Log
