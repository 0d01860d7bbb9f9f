pub mod Leaves
pub mod Parted
