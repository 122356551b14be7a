pub mod Comparing
pub mod Marking
pub mod Determined
