pub mod Sorters
