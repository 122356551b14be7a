pub mod Begin
pub mod Rows
pub mod Told
