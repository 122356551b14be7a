pub mod Exact
pub mod Finding
pub mod Determined
pub mod Wide
pub mod FirstLine
pub mod Seeking
