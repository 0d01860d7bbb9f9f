pub mod Heres
