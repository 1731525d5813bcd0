pub mod Json
-- what only ties code to it
pub mod Commas
pub mod Frames
pub mod Laid
pub mod Telling
