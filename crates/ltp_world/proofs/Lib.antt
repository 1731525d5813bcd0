mod LinkLemmas
mod FrontLemmas
mod WorldLemmas
pub mod DrainLemmas
pub mod DrainFrontLemmas
pub mod MarkLemmas
pub mod SearchLemmas
pub mod PickLemmas
pub mod RestLemmas
pub mod PickedLemmas
pub mod PickedEnds
