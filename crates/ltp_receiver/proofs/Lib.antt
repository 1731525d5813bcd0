pub mod ReportLemmas
pub mod KeptLemmas
pub mod QuietLemmas
-- the receiver's law
pub mod LawLemmas
