pub mod ChunkLemmas
pub mod StepLemmas
pub mod RunLemmas
pub mod LogLemmas
pub mod LawLemmas
pub mod OriginLemmas
pub mod SendLemmas
