pub mod Bytes
pub mod Picked
pub mod Steps
