-- what a gate will begin, and the room for it
pub mod OnTheWay
pub mod PathRoom
-- what becomes of a block, in numbers and notes
pub mod Pieces
-- what events leave of the room
pub mod Owing
pub mod RoomKept
-- clean events, and what is noted and handed up in them
pub mod Clean
pub mod Effects
-- when a drain completes, and what it costs
pub mod Hopeful
-- what it promises
pub mod Completion
-- what holds of every run of a path
pub mod Runs
pub mod Decided
pub mod CarriedOut
-- what a run promises together with a drain after it
pub mod WholeRun
-- and what passes in it arrives
pub mod Arrival
-- how much is left of a drain
pub mod Left
-- when timers are due, and what a clock does before
pub mod Moments
-- its events, computed
pub mod Drained
-- for examples
pub mod ReadyExamples
pub mod DrainedExamples
pub mod BundleExamples
