-- Facts by computation.
pub mod Facts
pub mod Joining
