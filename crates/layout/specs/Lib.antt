pub mod Fault
pub mod Inking
pub mod Kind
pub mod Layout
pub mod Line
