pub mod BundleLemmas
pub mod RunLemmas
pub mod PlayLemmas
pub mod DrainLemmas
pub mod AnswerLemmas
