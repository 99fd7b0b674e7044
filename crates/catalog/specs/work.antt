pub mod Analysed
pub mod Candidates
pub mod Contents
pub mod Entries
pub mod Keys
pub mod Known
pub mod Tables
pub mod TextTables
