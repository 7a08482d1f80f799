pub mod Demand
pub mod Own
pub mod Yes
