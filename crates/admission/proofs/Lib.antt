pub mod Leads
pub mod Ring
pub mod Signs
pub mod Standing
pub mod Turned
pub mod Unique
