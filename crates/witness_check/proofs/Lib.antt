pub mod Unique
pub mod WayBack
pub mod WayThere
