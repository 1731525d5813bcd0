pub mod RedPartLemmas
