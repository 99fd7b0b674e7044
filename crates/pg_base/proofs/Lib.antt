pub mod Bytes
pub mod SetLaws
pub mod NumberLemmas
pub mod ListLemmas
pub mod BoolLemmas
pub mod OptionLemmas
pub mod NameLemmas
