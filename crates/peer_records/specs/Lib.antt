-- What a reader must believe: what a step did, what a gateway knows of its journal, the records of a step
-- and of a half, and what is known after them.
pub mod Happened
pub mod Keeping
pub mod Records
pub mod Halves
pub mod Laws
-- What ties the code to it.
pub mod Ties
pub mod Told
pub mod Said
