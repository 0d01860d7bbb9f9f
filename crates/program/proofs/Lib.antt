-- The table's length is the sum of the sizes, its rules stand inside it, its words have 16 bits; and facts by computing.
pub mod Lengths
pub mod Places
pub mod Bounds
pub mod Facts
pub mod AcceptedWords
pub mod MadeFacts
pub mod LabelFacts
