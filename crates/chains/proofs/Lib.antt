pub mod Lists
pub mod Grows
pub mod Solves
pub mod Facts
