-- What a reader must believe, in this order.
pub mod Cutting
pub mod Ends
pub mod Cells
pub mod Joining
pub mod Again
pub mod Payload
pub mod Repeats
pub mod Word
-- What ties code to it.
pub mod CutterLeft
