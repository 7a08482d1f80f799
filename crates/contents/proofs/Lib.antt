pub mod Arities
pub mod Entries
pub mod Records
pub mod Sizes
pub mod Unique
