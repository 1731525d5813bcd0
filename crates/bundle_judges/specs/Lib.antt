-- What a judge is told, and what it answers.
pub mod Judging6
pub mod Judging7
-- What ties code to that.
pub mod Field6
pub mod Stand6
pub mod Sum7
pub mod Field7
pub mod Here7
pub mod Stand7
