pub mod Ends
pub mod Laying
pub mod Each
pub mod Split
pub mod Lined
pub mod Picking
pub mod Determined
pub mod Noted
