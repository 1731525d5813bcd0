-- What public clauses cite, in reading order.
pub mod Keys
pub mod Refusals
pub mod Values
pub mod Meaning
pub mod Reading
pub mod Shown
pub mod Lines
-- What only ties code to it.
pub mod Lent
pub mod Escapes
