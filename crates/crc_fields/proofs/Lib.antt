pub mod Chain
pub mod TableLemmas
