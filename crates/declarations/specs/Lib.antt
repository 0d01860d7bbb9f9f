pub mod Decls
pub mod Agreement
