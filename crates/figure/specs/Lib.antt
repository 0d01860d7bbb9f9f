pub mod Figure
pub mod Count
pub mod Promise
pub mod Told
