-- The proof of demand 3, in the order of the argument.
pub mod Single
pub mod Lists
pub mod Lay
pub mod Laid
pub mod Sim
pub mod Agree
pub mod Grow
pub mod Bound
pub mod BoundRules
pub mod BoundWalk
pub mod Doubling
pub mod MoreAnswers
pub mod Theorem
pub mod Pauses
pub mod Enough
pub mod Reports
pub mod Facts
