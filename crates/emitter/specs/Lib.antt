pub mod Words
pub mod Stands
pub mod Heads
pub mod Ends
pub mod Work
pub mod Emitted
