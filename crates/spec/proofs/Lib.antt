pub mod Bytes
pub mod Decided
pub mod Examples
pub mod Held
pub mod Lists
pub mod Refresh
pub mod Replaced
pub mod Told
