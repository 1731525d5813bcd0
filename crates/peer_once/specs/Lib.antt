-- what a reader must believe, in this order
pub mod Runs
pub mod Laws
pub mod Pieces
pub mod Uses
