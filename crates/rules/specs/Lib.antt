pub mod Judged
pub mod Marked
pub mod Wholes
