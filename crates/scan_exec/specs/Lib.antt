pub mod Coming
pub mod work
-- What callers name of the crates below.
pub use Rattle.store.specs.Kept as store_Kept
pub use Rattle.store.specs.work.Kept as store_work_Kept
