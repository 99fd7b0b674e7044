pub mod Likings
pub mod Offers
pub mod Worked
