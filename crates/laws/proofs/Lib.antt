pub mod Places
pub mod Bools
pub mod Bounds
pub mod Answers
pub mod Lists
pub mod Lent
pub mod Determined
pub mod Flags
