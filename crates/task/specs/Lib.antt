pub mod Completion
pub mod Follows
pub mod Held
pub mod Leads
pub mod Mapped
pub mod Task
pub mod Terms
