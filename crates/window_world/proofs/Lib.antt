pub mod WindowLemmas
pub mod MadeLemmas
pub mod QuietLemmas
