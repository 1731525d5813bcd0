mod OrderLemmas
mod RedPartLemmas
pub mod PlainLemmas
pub mod TextLineLemmas
mod UpLineLemmas
mod WantsLemmas
pub mod RunLemmas
