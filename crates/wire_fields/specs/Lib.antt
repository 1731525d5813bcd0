-- What formats are: the kinds of fields, tables, refusals, whole texts, and the words of tables.
pub mod Kind
pub mod Format
pub mod Refusal
pub mod Whole
pub mod Words
pub mod Word
-- What ties code to them: reading as a function, and what code returned beside it.
pub mod Reading
pub mod Gives
-- Streams of values in pieces: what a piece gives, and that cuts make no difference.
pub mod Streaming
pub mod Holding
pub mod Cutting
