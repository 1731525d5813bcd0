-- what a reader must believe, in this order
pub mod Bounds
pub mod Queues
pub mod Loads
pub mod Faces
pub mod Laws
