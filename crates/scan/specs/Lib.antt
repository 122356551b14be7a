pub mod Front
pub mod Run
pub mod Looking
pub mod Told
