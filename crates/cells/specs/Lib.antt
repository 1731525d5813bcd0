-- what public clauses cite
pub mod Cells
pub mod Covers
-- what ties the code to it
pub mod Laid
pub mod Gaps
