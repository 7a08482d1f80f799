pub mod Filling
pub mod Judged
