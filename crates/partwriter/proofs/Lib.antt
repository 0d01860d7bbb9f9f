pub mod Putting
pub mod Facts
