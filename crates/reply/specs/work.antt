pub mod Drawing
pub mod Measures
pub mod Putting
pub mod Replies
pub mod Settings
pub mod Showing
pub mod Stops
