-- What a reader must believe, in this order.
pub mod Keeps
pub mod Steps
pub mod Pieces
pub mod Resumes
pub mod Marks
pub mod Stops
