pub mod Ascending
pub mod Bodies
pub mod Codes
