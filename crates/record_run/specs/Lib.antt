pub mod Record
-- what it writes over a run, whoever is at the other end
pub mod Exchange
-- what only ties code to these
pub mod Grows
