pub mod Askings
pub mod Claims
pub mod Ending
pub mod Places
pub mod Questions
pub mod Replies
pub mod Steps
