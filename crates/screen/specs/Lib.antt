pub mod Screen
pub mod Items
pub mod Promise
