pub mod Closing
pub mod Passing
pub mod Placing
pub mod Rules
pub mod Facts
pub mod Names
