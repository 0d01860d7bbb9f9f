pub mod OwnWalk
