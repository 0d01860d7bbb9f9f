pub mod Objects
pub mod Link
pub mod Moved
pub mod Blank
pub mod Promise
pub mod Sound
pub mod Form
pub mod Joined
