pub mod Faults
pub mod Content
pub mod Datagrams
pub mod Settled
pub mod Outcome
pub mod InMemory
-- what only ties code to these
pub mod AnswerView
pub mod Adapters
