pub mod Integers
pub mod Decimals
pub mod Columns
pub mod Blocks
pub mod Others
pub mod Rows
pub mod Printed
pub mod Determined
