-- What public clauses cite, in reading order.
pub mod Sides
pub mod Recorded
pub mod Rules
pub mod Words
pub mod Adding
pub mod Laws
pub mod Recording
pub mod Keeping
-- What only ties code to it.
pub mod Pages
pub mod Held
pub mod Shows
pub mod Knows
