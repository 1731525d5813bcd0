pub mod SetupLemmas
pub mod KeptLemmas
pub mod ShowsLemmas
pub mod PartLemmas
pub mod ResumeLemmas
pub mod StartLemmas
pub mod QuietLemmas
