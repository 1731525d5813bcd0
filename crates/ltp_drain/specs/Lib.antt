-- clean events, and what ends do in them
pub mod Clean
pub mod Effects
-- when a drain completes, what it costs, and what it promises
pub mod Hopeful
pub mod Completion
-- why every drain ends
pub mod Left
-- the rank of each session, from step to step
pub mod Draining
pub mod Ranks
-- What only ties proofs to it.
pub mod Rank
pub mod Calm
pub mod Standing
