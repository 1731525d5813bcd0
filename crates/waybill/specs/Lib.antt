-- The table, and a fault as one of its refusals.
pub mod Table
pub mod Cause
