-- When a part of a half needs no memory.
pub mod Quiet
