pub mod Marks
pub mod Pairs
pub mod Ranks
pub mod Pairing
