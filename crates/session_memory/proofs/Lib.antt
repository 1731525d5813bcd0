pub mod RunLemmas
pub mod NumberLemmas
pub mod MemoryLemmas
