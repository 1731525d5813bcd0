-- What public clauses cite, in reading order.
pub mod Endpoints
pub mod Numeral
pub mod Reading
pub mod Fault
-- What only ties code to it.
pub mod Lent
pub mod Places
pub mod PlaceWords
