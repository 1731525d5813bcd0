pub mod RememberedLemmas
