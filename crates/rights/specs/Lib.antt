pub mod Rights
pub mod Promise
