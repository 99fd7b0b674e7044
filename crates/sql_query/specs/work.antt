pub mod WellBound
