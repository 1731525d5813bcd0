-- what a reader must believe, in this order
pub mod Causes
pub mod Fields
pub mod Table6
pub mod Table7
pub mod Order
pub mod Legal
pub mod Spelling
pub mod Pairing
pub mod Word
-- what only ties code to it
pub mod Views
