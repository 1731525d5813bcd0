-- What a reader must believe.
pub mod Takes
pub mod Stores
