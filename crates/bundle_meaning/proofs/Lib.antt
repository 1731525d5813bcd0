pub mod BodyLemmas
pub mod NamesLemmas
pub mod FieldLemmas
pub mod SpellingLemmas
pub mod RecordLemmas
pub mod FactLemmas
