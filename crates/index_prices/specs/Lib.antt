pub mod Candidates
pub mod Prices
pub mod Replies
pub mod work
