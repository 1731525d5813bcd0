-- What public clauses cite, in reading order.
pub mod Head
pub mod Item
pub mod Fault
