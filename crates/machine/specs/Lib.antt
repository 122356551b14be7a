pub mod State
pub mod Faults
pub mod Next
pub mod Step
pub mod Due
pub mod Told
pub mod Usual
