-- What public clauses cite, in reading order.
pub mod EntryLine
pub mod Audited
-- What only ties code to it.
pub mod Seen
pub mod Shows
