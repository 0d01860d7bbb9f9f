pub mod Heads
pub mod Parts
pub mod Row
pub mod Rules
