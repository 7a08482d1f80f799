pub mod Alone
pub mod Listing
pub mod Placings
pub mod Tasks
pub mod Turns
