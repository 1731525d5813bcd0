pub mod StepLemmas
pub mod OpenLemmas
pub mod NewLemmas
pub mod RestLemmas
pub mod RecoverLemmas
