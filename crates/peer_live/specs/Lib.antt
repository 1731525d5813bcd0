-- What public clauses cite, in reading order.
pub mod Telling
pub mod Shows
