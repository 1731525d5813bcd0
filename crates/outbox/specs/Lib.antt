-- What public clauses cite, in reading order.
pub mod Schedule
pub mod Outbox
pub mod FaceTime
pub mod Run
pub mod Laws
-- What only ties code to it.
pub mod Kept
