-- Laws of words, for the proofs of the code.
pub mod WordLaws
pub mod Joined
