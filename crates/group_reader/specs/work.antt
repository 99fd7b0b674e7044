pub mod Adds
pub mod Binding
pub mod Ends
pub mod Meaning
pub mod Reads
pub mod Seen
pub mod Selected
pub mod Written
