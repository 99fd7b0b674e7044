pub mod Answers
pub mod KeyOrder
