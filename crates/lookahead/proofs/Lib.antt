pub mod Counted
pub mod Counting
pub mod InVain
pub mod Looking
pub mod Taken
pub mod Total
pub mod Unique
