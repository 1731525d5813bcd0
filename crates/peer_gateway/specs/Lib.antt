-- what a reader must believe, in this order
pub mod Keys
pub mod Gate
pub mod Going
pub mod Steps
pub mod Laws
-- what ties code to it
pub mod Queue
pub mod Answers
pub mod Views
pub mod Waits
pub mod Faces
pub mod Ties
