pub mod Cuts
pub mod Sizes
pub mod Turns
pub mod Isolation
pub mod Facts
