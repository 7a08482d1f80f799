pub mod RowPlaces
pub mod Rows
