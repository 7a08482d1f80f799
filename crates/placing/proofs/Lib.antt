pub mod Answered
pub mod Laid
pub mod Open
pub mod ReasonsCarried
pub mod Refuted
pub mod Unique
pub mod Verdicts
