pub mod WrittenLines
pub mod TextLines
pub mod Node
-- what it writes and hands up over a run, whoever is at the other end
pub mod RedParts
-- where the answer to a line may be want of memory
pub mod Wanted
-- what only ties code to these
pub mod Shows
