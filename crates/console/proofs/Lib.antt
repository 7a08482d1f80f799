pub mod Books
pub mod Fills
