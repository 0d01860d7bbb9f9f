pub mod Heads
pub mod Located
