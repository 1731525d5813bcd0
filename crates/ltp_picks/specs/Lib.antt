-- a drain in which the two directions cross as picks say
pub mod Picks
-- how such a drain goes to its end, and what that promises
pub mod PickedRuns
-- what an old segment costs by its session
pub mod CopyCosts
-- What only ties proofs to it.
pub mod Asking
