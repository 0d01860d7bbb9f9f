pub mod Finishing
pub mod Before
pub mod Test
