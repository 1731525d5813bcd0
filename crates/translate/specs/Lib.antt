-- what a reader must believe, in this order
pub mod Sound
pub mod Admin
pub mod View6
pub mod View7
pub mod Refusals
pub mod Private
pub mod Answers
pub mod Reading6
pub mod Reading7
pub mod Paired
pub mod Translation
pub mod Legal
pub mod Normal
-- what only ties code to it
pub mod Views
