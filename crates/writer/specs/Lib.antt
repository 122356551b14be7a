pub mod Writing
