-- What public clauses cite, in reading order.
pub mod Spelling
pub mod Reading
pub mod Shortest
pub mod Word
