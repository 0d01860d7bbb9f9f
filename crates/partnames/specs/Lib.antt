pub mod Buffer
pub mod Declaring
pub mod Mentioning
pub mod Settling
pub mod Heads
