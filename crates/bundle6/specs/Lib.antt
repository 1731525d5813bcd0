-- Bundles: flags, names, the table, the canonical spelling, legal bundles, and a fault as a refusal.
pub mod Bits
pub mod Names
pub mod Table
pub mod Spelling
pub mod Legal
pub mod Cause
pub mod Streaming
pub mod Cutting
-- What ties code to them.
pub mod Seen
pub mod Judging
pub mod Passing
pub mod Holding
pub mod Gathering
pub mod Numbering
pub mod Writing
