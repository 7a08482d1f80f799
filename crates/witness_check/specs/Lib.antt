pub mod WayBack
pub mod WayThere
