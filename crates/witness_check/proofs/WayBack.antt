pub mod Named
pub mod Storing
pub mod Ways
