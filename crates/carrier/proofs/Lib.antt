pub mod Laws
mod Answered
pub mod Words
pub mod Loop
pub mod Sheets
pub mod Spans
pub mod Placing
pub mod Linked
pub mod Stepping
pub mod Walks
pub mod HasRules
