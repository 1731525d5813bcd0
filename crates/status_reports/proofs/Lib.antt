pub mod AnswerLemmas
pub mod FieldLemmas
pub mod SpellLemmas6
pub mod SpellLemmas7
pub mod PairLemmas
pub mod SpelledLemmas
pub mod SpelledLemmas6
pub mod SpelledLemmas7
