pub mod Advices
pub mod Choices
pub mod Memos
