pub mod Checking
pub mod Stating
pub mod Told
pub mod Stepping
pub mod Usual
pub mod Determined
pub mod Unlooked
