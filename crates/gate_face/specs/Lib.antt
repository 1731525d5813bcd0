-- What public clauses cite, in reading order.
pub mod Schedules
pub mod Faces
pub mod Contacts
pub mod Halves
-- What only ties code to it.
pub mod Kept
