-- What public clauses cite, in reading order.
pub mod Moments
pub mod Calendar
pub mod Text
