pub mod Facts
pub mod Parting
