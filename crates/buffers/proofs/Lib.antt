pub mod Zeros
pub mod Writes
