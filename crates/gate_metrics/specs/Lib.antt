-- What public clauses cite, in reading order.
pub mod Counting
pub mod Text
pub mod Laws
