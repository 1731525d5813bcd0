pub mod LineContent
pub mod Session
pub mod KeptSessions
pub mod WrittenLines
pub mod Receive
pub mod Taken
pub mod ReceiverLaw
pub mod KeepReceiving
-- what only ties code to these
pub mod Views
pub mod OpenPart
pub mod Table
pub mod Turns
