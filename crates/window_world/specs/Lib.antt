-- What public clauses cite, in reading order.
pub mod Values
pub mod Refused
pub mod Steps
pub mod Drain
pub mod Made
pub mod Quiet
-- What only ties code to it.
pub mod Ties
pub mod Leads
