pub mod Earned
pub mod Lines
