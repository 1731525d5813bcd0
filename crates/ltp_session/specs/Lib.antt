-- one session
pub mod Cells
pub mod RedPart
pub mod Claims
pub mod Timer
pub mod Step
pub mod Sender
pub mod Receiver
pub mod Views
-- an engine, and two of them on a link
pub mod Table
pub mod Engine
pub mod World
-- short runs
pub mod Examples
