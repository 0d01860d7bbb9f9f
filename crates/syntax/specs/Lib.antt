pub mod Written
pub mod Reading
pub mod Actions
pub mod Sections
pub mod Parse
pub mod Texts
