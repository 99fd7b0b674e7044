pub mod Beating
pub mod Joining
pub mod Judging
pub mod Placing
pub mod Ranking
pub mod Views
