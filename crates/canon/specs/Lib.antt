pub mod Table
pub mod Valid
pub mod Canonical
pub mod Measured
pub mod Spent
