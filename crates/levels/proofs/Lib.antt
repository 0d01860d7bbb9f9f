-- What the code that makes rules rests on.
pub mod CellsAre
pub mod Putting
pub mod Making
pub mod Naming
