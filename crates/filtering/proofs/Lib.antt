pub mod Facts
pub mod Exact
