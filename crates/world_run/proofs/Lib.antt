mod PlainLemmas
mod LineLemmas
pub mod StartLemmas
pub mod StepLemmas
pub mod DrainLemmas
pub mod TellingLemmas
mod PlayLemmas
pub mod JoinerLemmas
pub mod SendLemmas
pub mod ScriptLemmas
