pub mod Held
pub mod Within
