pub mod Books
pub mod Lines
