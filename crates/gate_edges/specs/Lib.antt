-- What public clauses cite.
pub mod Clocks
pub mod Ahead
pub mod Made
pub mod InMemory
