-- The test of finishing is exact; and finishing in the form that a bound on steps uses.
pub mod Paths
pub mod Rounds
pub mod Exact
pub mod Bridge
pub mod Wider
pub mod Facts
pub mod Were
