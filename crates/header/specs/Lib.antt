pub mod Rules
pub mod Versions
pub mod Letters
pub mod Header
