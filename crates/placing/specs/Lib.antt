pub mod FirstPlaces
pub mod SearchAnswer
