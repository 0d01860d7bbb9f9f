pub mod LevelCells
pub mod Making
pub mod Naming
