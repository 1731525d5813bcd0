-- What public clauses cite, in reading order.
pub mod Words
pub mod Lines
pub mod NoteLines
pub mod Events
pub mod LinkEvents
pub mod Fault
pub mod Laws
-- What only ties code to it.
pub mod Ties
pub mod LinkTies
