-- what a reader must believe, in this order
pub mod Outside
pub mod Turns
pub mod WrittenLines
pub mod Serve
pub mod Deeds
pub mod Tells
pub mod Edges
pub mod Told
pub mod Events
-- what only ties code to these
pub mod InMemory
pub mod Effects
pub mod Shows
