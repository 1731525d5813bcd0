-- What public clauses cite, in reading order.
pub mod Kinds
pub mod Values
pub mod Cause
pub mod Pieces
pub mod Reports
pub mod Types
pub mod Table
pub mod Reading
pub mod Legal
pub mod Spelling
pub mod Policy
pub mod Notes
-- How values of the code are seen.
pub mod Claims
pub mod Views
pub mod PolicyViews
-- What only ties code to it.
pub mod Ties
