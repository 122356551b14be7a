pub mod Saying
pub mod Digits
pub mod Composed
pub mod Answering
pub mod Prints
