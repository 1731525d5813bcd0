pub mod SaysLemmas
