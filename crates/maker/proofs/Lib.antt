-- What the code that makes rules rests on.
pub mod Marked
pub mod Entering
pub mod Ranking
pub mod Holding
pub mod Taking
pub mod Named
pub mod Walking
