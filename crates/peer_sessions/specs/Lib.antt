-- what a reader must believe, in this order
pub mod Keys
pub mod Sessions
pub mod Runs
pub mod Laws
-- what ties code to it
pub mod Views
pub mod Moments
pub mod Notes
pub mod Contents
pub mod Ties
pub mod Blocks
pub mod Hearing
