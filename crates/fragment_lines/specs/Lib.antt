-- what a reader must believe, in this order
pub mod Said
pub mod Lines
pub mod Cut
pub mod Joins
-- what only ties code to it
pub mod Writable
pub mod Tells
