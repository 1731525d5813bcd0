pub mod ContactLemmas
mod KeptLemmas
mod FaultLemmas
