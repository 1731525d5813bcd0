pub mod ListLemmas
pub mod DocumentLemmas
pub mod ReadingLemmas
