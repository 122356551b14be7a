pub mod Showing
pub mod Laying
pub mod Blocks
pub mod Times
pub mod Fitting
pub mod Answering
pub mod Determined
pub mod Forming
