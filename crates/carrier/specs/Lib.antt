pub mod Held
pub mod Going
pub mod Sheets
pub mod Sections
pub mod Walks
pub mod Places
