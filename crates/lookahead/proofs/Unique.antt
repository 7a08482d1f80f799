pub mod Outlook
pub mod Reasons
