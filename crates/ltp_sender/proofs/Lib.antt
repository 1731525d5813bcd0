pub mod Datagrams
pub mod RangeLemmas
pub mod SegmentLemmas
pub mod ClaimLemmas
pub mod PieceLemmas
pub mod StepLemmas
pub mod BeginLemmas
