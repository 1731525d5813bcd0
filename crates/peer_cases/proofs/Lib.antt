pub mod RowLemmas
pub mod PlainLemmas
pub mod BeforeLemmas
pub mod WireLemmas
pub mod CutLemmas
pub mod SendLemmas
pub mod ItemLemmas
pub mod PromiseLemmas
