pub mod Stops
pub mod Task
pub mod PartTask
pub mod Within
pub mod InputLines
pub mod Lines
pub mod Limits
pub mod PartLines
-- what only ties code to these
pub mod Handing
