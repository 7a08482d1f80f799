pub mod Confirms
pub mod Places
pub mod Steps
