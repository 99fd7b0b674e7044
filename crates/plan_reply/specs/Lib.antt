pub mod Told
pub mod Tabled
pub mod work
-- What callers name of the crates below.
pub use Rattle.planned_table.specs.certificate_laws_Arms as certificate_laws_Arms
