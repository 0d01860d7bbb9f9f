pub mod Facts
pub mod Admits
