pub mod Chosen
pub mod Passing
pub mod Posed
pub mod Pruning
