-- what `world` writes
pub mod WrittenLines
pub mod World
-- where the answer to a line may be want of memory
pub mod Wanted
-- what its text says of a script
pub mod Headline
-- what only ties code to these
pub mod Shows
pub mod Telling
