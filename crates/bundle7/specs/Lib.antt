-- Causes, fields, what a bundle is, what spells it and what calls answer, in reading order.
pub mod Cause
pub mod Eid
pub mod Body
pub mod Check
pub mod Table
pub mod Legal
pub mod Spelling
pub mod Calls
pub mod Streaming
pub mod Cutting
-- What follows only ties code to the definitions.
pub mod Lent
pub mod Known
pub mod Seen
pub mod Judging
pub mod Passing
pub mod Holding
