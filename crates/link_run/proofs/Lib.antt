mod TextLemmas
mod LoopLemmas
mod SetupLemmas
mod DrainLemmas
mod StepLemmas
mod StartLemmas
mod EndingLemmas
mod TurnLemmas
mod LineLemmas
mod StepsLemmas
pub mod PicksMade
mod PickedLemmas
mod FewLemmas
mod PlainLemmas
mod TellLemmas
mod DoneLemmas
mod PlayLemmas
mod PlansLemmas
mod SentLemmas
mod TimeLemmas
pub mod LawLemmas
