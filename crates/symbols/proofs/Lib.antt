-- Laws of parts of the text and of the row of declarations, for the proofs of the code; and worked examples.
pub mod Parts
pub mod Searches
pub mod Chains
pub mod Indexing
pub mod Along
pub mod Lookups
pub mod Facts
pub mod Numbered
