-- Laws of readings, for the proofs of the code.
pub mod Laws
pub mod SectionLaws
pub mod TextLaws
