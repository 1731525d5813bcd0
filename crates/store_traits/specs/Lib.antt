-- What the calls of a store do to its file, and what a crash may leave of it.
pub mod Disk
pub mod Torn
-- How the stores in memory meet these.
pub mod Past
pub mod Moments
