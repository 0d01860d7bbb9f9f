-- What the verdict's code computes over the program's cells.
pub mod Lies
pub mod Told
