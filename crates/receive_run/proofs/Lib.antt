pub mod LawLemmas
pub mod TableLemmas
pub mod CountLemmas
pub mod TranscriptLemmas
pub mod SessionsLemmas
pub mod KeepReceivingLemmas
