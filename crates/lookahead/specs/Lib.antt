pub mod Failure
pub mod Outlook
pub mod Seen
pub mod Steps
pub mod Taking
