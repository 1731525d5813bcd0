pub mod SessionLemmas
pub mod DecisionLemmas
pub mod SendLemmas
pub mod StepLemmas
pub mod ServeLemmas
pub mod RunLemmas
