-- what a reader must believe, in this order
pub mod Faces
pub mod Blocks
pub mod Passage
pub mod Reports
pub mod Cases
pub mod Bundles
pub mod Promises
-- what only ties code to it
pub mod Sending
pub mod Names
