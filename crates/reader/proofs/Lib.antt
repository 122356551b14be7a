pub mod Found
pub mod Delivering
pub mod Determined
