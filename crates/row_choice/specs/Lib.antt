pub mod Asked
pub mod Dominance
pub mod Dominators
pub mod Targets
