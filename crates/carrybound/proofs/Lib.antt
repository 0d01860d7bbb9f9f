pub mod Bound
pub mod Shifted
pub mod Reaching
pub mod Ending
