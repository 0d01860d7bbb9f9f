-- From the calls over bytes to demand 3.
pub mod Facts
pub mod Joined
pub mod Entries
pub mod Refused
pub mod Figures
pub mod Loaded
pub mod Behind
pub mod Admitted
pub mod Screens
pub mod Tables
pub mod Linking
pub mod Carried
pub mod Unmoved
pub mod CarriedFigure
