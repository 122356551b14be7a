pub mod Lines
pub mod Noted
pub mod Lent
