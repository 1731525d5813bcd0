-- ---- what standard error says of a run, and of the words of serve
pub mod Why
pub mod Slip
-- ---- the hint that it gives, by what the input looks like
pub mod Looks
pub mod Refusals
pub mod Hints
-- ---- what is remembered for that
pub mod Remembered
