pub mod TypeLemmas
pub mod RetypeLemmas7
pub mod RetypeLemmas6
pub mod WrapLemmas
pub mod LegalLemmas7
pub mod LegalLemmas6
pub mod BareLemmas
pub mod RelabelLaws
