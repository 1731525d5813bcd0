-- What a reader must believe, in this order.
pub mod Types
pub mod Setup
pub mod Moments
pub mod Journals
pub mod Standing
pub mod Steps
pub mod Starts
pub mod Acts
pub mod Parts
pub mod Half
pub mod Run
pub mod Runs
pub mod Laws
