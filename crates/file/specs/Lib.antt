pub mod Kinds
pub mod Table
pub mod Plain
pub mod Exact
