-- What public clauses cite.
pub mod Crc
-- What only ties code to it.
pub mod Tables
