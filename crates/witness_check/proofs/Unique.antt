pub mod Back
pub mod There
