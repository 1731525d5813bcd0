pub mod DateLemmas
pub mod CalendarLemmas
