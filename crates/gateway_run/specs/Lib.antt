pub mod Rules
pub mod GateName
pub mod Passed
pub mod Commands
pub mod Edge
pub mod Runs
