-- What a reader must believe: what is kept, what each record does to it, the table, whole files, the
-- octets that are written, a file that is made anew, how long a file is, what may be kept, and when memory
-- is wanted.
pub mod Values
pub mod Keeping
pub mod Table
pub mod File
pub mod Spelling
pub mod Anew
pub mod Length
pub mod Below
pub mod Legal
pub mod Wants
-- Names of causes, and what only ties code to these.
pub mod Cause
pub mod Ties
pub mod Rising
