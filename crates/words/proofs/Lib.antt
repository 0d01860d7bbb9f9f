-- Facts by computation.
pub mod Facts
pub mod Were
pub mod Before
