pub mod Asking
pub mod RowAnswers
pub mod Theorems
pub mod Determined
