-- what public clauses cite
pub mod Sender
-- what ties the code to it
pub mod Segments
pub mod Phases
pub mod Kept
pub mod Ranges
