pub mod NumeralLemmas
pub mod ReadingLemmas
pub mod PlacesLemmas
pub mod PlaceWordsLemmas
