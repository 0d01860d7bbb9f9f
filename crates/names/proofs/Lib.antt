-- Facts by computation: what names mean, and the faults 3 to 8.
pub mod Facts
pub mod Operators
