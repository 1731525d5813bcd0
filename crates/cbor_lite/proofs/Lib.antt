pub mod HeadLemmas
pub mod HeadLaws
pub mod StringLaws
