pub mod Faults
pub mod Operators
