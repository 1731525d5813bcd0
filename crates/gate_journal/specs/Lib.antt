-- What a journal on a store promises.
pub mod Rest
pub mod Recovery
-- What only ties code to it.
pub mod Steps
