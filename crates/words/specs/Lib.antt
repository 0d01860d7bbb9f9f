pub mod Words
pub mod Before
