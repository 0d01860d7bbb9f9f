-- The scan of the cells, and the rules' locations.
pub mod Leave
pub mod Places
