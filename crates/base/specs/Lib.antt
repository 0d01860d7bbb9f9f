pub mod Common
pub mod Tree
pub mod Bools
pub mod Faults
