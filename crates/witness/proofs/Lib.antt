pub mod BackLaws
pub mod BackServing
pub mod Found
pub mod ThereLaws
pub mod ThereServing
pub mod Unique
pub mod WitnessStores
