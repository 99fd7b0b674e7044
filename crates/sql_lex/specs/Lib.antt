pub mod Letters
pub mod Blanks
pub mod Forms
pub mod Words
pub mod Ends
pub mod work
