pub mod Places
pub mod Tests
pub mod Texts
