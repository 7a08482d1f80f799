pub mod Dropped
pub mod Steps
pub mod Tests
pub mod Unique
pub mod Uses
