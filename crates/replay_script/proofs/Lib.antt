pub mod LineLemmas
pub mod WordLemmas
pub mod FieldLemmas
pub mod PathLemmas
pub mod PickLemmas
