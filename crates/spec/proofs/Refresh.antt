pub mod Admits
pub mod Leads
