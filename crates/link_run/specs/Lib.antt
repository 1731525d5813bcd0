-- What public clauses cite, in reading order.
pub mod WrittenLines
pub mod Picks
pub mod Link
pub mod Law
-- What only ties code to it.
pub mod Shows
