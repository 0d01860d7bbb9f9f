pub mod Concluded
pub mod Closing
pub mod Bodies
pub mod Groups
pub mod Placed
