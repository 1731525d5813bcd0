pub mod OwnLemmas
pub mod EventLemmas
pub mod TextLemmas
pub mod NamedLemmas
pub mod LineLemmas
pub mod OrderLemmas
pub mod EndLemmas
pub mod PlainLemmas
