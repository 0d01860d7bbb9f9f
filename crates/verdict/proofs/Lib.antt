-- Laws of the verdict's definitions.
pub mod Sets
pub mod Scan
pub mod Passing
pub mod Table
pub mod Laid
pub mod Listed
pub mod Stands
pub mod Growth
pub mod Looking
pub mod Room
pub mod Worthy
