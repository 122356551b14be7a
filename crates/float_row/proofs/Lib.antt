pub mod Theorems
pub mod Determined
