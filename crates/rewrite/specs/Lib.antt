pub mod Rewriting
pub mod Printed
