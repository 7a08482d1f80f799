pub mod Checks
pub mod Proposal
