-- a path, and what happens on it
pub mod Places
pub mod Path
pub mod Words
-- its links
pub mod Links
-- what is begun and handed up, and the laws
pub mod Log
pub mod Laws
