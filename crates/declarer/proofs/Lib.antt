-- Laws of the faults of declarations, for the proofs of the code.
pub mod FaultLaws
pub mod MarkLaws
pub mod OperatorLaws
pub mod Lines
