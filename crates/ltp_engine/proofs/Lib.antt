mod ClosedLemmas
mod TableLemmas
mod OrderLemmas
mod KeptLemmas
mod ChangeLemmas
pub mod InboundLemmas
mod SoundLemmas
mod BlockLemmas
mod RunsLemmas
pub mod KeepLemmas
pub mod ShowLemmas
mod EngineLemmas
pub mod HearLemmas
mod WantLemmas
pub mod LegalLemmas
mod BeginLemmas
pub mod QuietLemmas
pub mod ElsewhereLemmas
mod OctetLemmas
mod RedPartLemmas
