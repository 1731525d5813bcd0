pub mod ClaimsLemmas
pub mod ReportLemmas
pub mod SegmentLemmas
pub mod WritingLemmas
pub mod PolicyLemmas
