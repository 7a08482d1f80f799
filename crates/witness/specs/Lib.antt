pub mod BackSteps
pub mod BackTold
pub mod ThereSteps
pub mod ThereTold
pub mod WitnessBytes
