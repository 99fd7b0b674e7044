pub mod PriceLaws
pub mod Prices
pub mod Proposals
pub mod Quotes
