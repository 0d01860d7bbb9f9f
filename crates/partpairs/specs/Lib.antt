pub mod Numbers
pub mod Acts
pub mod Pairing
