pub mod FrontLemmas
pub mod GatherLaws
