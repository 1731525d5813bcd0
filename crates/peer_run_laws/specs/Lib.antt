-- What a reader must believe, in this order.
pub mod Gate
pub mod Faces
pub mod Bounds
pub mod Ticks
