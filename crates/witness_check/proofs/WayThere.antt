pub mod Named
pub mod Placing
pub mod Rowed
pub mod Storing
pub mod Ways
