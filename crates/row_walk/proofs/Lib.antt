pub mod Going
pub mod Stepping
pub mod Told
pub mod Determined
