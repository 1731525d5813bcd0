pub mod DeedLemmas
pub mod LinkLemmas
pub mod ActLemmas
pub mod ToldLemmas
pub mod EventLemmas
