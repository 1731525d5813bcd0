pub mod TextLemmas
pub mod PlainLemmas
pub mod LineLemmas
pub mod ShownLemmas
pub mod SubjectLemmas
pub mod RisingLemmas
