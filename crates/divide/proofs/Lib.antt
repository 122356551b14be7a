pub mod Ending
pub mod Cutting
pub mod Determined
