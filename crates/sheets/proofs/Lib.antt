pub mod LeadTest
pub mod Only
pub mod Proved
pub mod Tried
pub mod ValueTest
