pub mod Storing
pub mod Told
pub mod Theorems
pub mod Noted
pub mod Determined
