-- what a reader must believe, in this order
pub mod Creation
pub mod Expiry
pub mod Bits
pub mod Blocks
pub mod Reports
pub mod Valid
pub mod Defaults
pub mod Body
pub mod Residue
pub mod Wrap
pub mod Word
-- what only ties code to it
pub mod Views
pub mod Room
