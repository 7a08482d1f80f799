pub mod Books
pub mod Sheet
pub mod Sheets
pub mod SourceBooks
pub mod WrongBooks
