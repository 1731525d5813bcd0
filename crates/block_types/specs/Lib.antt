-- what a reader must believe, in this order
pub mod Pair
pub mod Types
pub mod Relabelled
pub mod Bare
pub mod Laws
