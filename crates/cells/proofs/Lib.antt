pub mod CellLemmas
pub mod GapLemmas
pub mod LogLemmas
pub mod FilledLemmas
