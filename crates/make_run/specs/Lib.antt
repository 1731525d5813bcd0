-- what `make` draws, sends and answers, in reading order
pub mod Draws
pub mod Bundles
pub mod Script
pub mod Making
pub mod Runs
-- where its answer may be want of memory
pub mod Wanted
-- what only ties code to these
pub mod Ties
