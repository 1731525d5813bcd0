-- what a reader must believe, in this order
pub mod Numbers
pub mod Memory
pub mod Events
pub mod Laws
-- what only ties code to it
pub mod Counting
