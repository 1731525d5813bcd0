pub mod AnswerLemmas
pub mod ContentLemmas
pub mod DatagramsLemmas
pub mod FaultsLemmas
