pub mod Reached
pub mod Right
pub mod OneReply
