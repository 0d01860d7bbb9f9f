-- Laws of the definitions, and facts that antt computes from them.
pub mod Table
pub mod Decoded
pub mod Lengths
pub mod Bytes
pub mod Words
pub mod Form
pub mod Facts
pub mod Keeps
pub mod Refused
