pub mod Leads
pub mod Summaries
