-- What the walks of this crate share.
pub mod Spots
mod Facts
pub mod Promised
pub mod Determined
