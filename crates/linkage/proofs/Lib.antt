pub mod Concluding
pub mod Closing
pub mod Bodies
pub mod Groups
pub mod Placing
pub mod Few
pub mod Ready
