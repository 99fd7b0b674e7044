pub mod Queries
pub mod WellBound
pub mod Worlds
pub mod Tuples
pub mod Meaning
pub mod Grouped
pub mod work
-- What callers name of the crates below.
pub use Rattle.catalog.specs.Contents as catalog_Contents
pub use Rattle.catalog.specs.work.Contents as catalog_work_Contents
pub use Rattle.catalog.specs.Indexes as catalog_Indexes
pub use Rattle.catalog.specs.Range as catalog_Range
pub use Rattle.catalog.specs.Statistics as catalog_Statistics
pub use Rattle.catalog.specs.Tables as catalog_Tables
pub use Rattle.catalog.specs.work.Tables as catalog_work_Tables
pub use Rattle.catalog.specs.declared.limits.TheConstants as catalog_limits_TheConstants
pub use Rattle.catalog.specs.declared.table.Sizes as catalog_table_Sizes
pub use Rattle.heap.specs.Stored as heap_Stored
pub use Rattle.heap.specs.work.Stored as heap_work_Stored
pub use Rattle.catalog.specs.opfamily_KeyOrder as opfamily_KeyOrder
pub use Rattle.catalog.specs.opfamily_work_KeyOrder as opfamily_work_KeyOrder
pub use Rattle.catalog.specs.opfamily_classes_IndexKey as opfamily_classes_IndexKey
pub use Rattle.catalog.specs.opfamily_classes_Method as opfamily_classes_Method
pub use Rattle.catalog.specs.opfamily_classes_Method_TheVariants as opfamily_classes_Method_TheVariants
pub use Rattle.catalog.specs.pg_value_Sorting as pg_value_Sorting
pub use Rattle.catalog.specs.pg_value_Truths as pg_value_Truths
pub use Rattle.catalog.specs.pg_value_value_Value as pg_value_value_Value
pub use Rattle.catalog.specs.pg_value_value_Value_TheVariants as pg_value_value_Value_TheVariants
