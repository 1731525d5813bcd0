pub mod MemoryLemmas
pub mod TornLemmas
