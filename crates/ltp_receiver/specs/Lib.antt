-- what public clauses cite
pub mod Receiver
pub mod Quiet
pub mod RedPart
-- what ties the code to it
pub mod Reports
pub mod Phases
pub mod Kept
