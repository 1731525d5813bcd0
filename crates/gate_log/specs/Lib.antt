-- What public clauses cite, in reading order.
pub mod Subjects
pub mod Values
pub mod Lines
pub mod Laws
-- What only ties code to it.
pub mod Written
