pub mod Entries
pub mod Loading
pub mod Relations
pub mod Table
