pub mod Filling
pub mod FillingSlots
pub mod FillingComments
pub mod FillingRows
pub mod After
pub mod Determined
pub mod Storing
