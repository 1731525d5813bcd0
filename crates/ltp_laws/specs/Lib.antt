-- what a session's view is, and words for it
pub mod View
pub mod Frame
pub mod Kept
-- the facts of a session, each after those that it needs
pub mod Blocks
pub mod Kinds
pub mod Spelling
pub mod HandUps
pub mod Serials
pub mod Claims
pub mod Checkpoints
pub mod Acknowledgements
pub mod Cancels
pub mod Reach
pub mod Completion
pub mod Deadlines
pub mod Engines
pub mod Writable
pub mod Facts
-- what a run submits and hands up
pub mod Log
-- the laws
pub mod Laws
-- What only ties proofs to it.
pub mod Runs
pub mod Steps
pub mod SenderSteps
