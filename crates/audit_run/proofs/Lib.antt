pub mod TwoWordLemmas
pub mod AuditedLemmas
pub mod HexLemmas
