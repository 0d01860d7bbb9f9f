pub mod Visits
pub mod Figures
pub mod ByRule
pub mod Shelf
pub mod Form
pub mod Spans
