pub mod Gregorian
pub mod Facts
pub mod Clock
pub mod Fraction
