pub mod WordLemmas
pub mod NamedLemmas
pub mod CommandLemmas
