pub mod AgeLemmas
pub mod ViewLemmas
