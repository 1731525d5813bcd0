-- What a reader must believe: what a gateway knows of its journal, what a step did, the records of a
-- step and of a half, and what is known after them.
pub mod Named
pub mod Happened
pub mod Keeping
pub mod Records
pub mod Halves
pub mod Laws
-- What ties the code to it.
pub mod Ties
