pub mod Table
pub mod Answers
pub mod KeyOrder
pub mod work
-- What callers name of the crates below.
pub use Rattle.pg_base.proofs.SetLaws as pg_base_SetLaws
pub use Rattle.pg_base.specs.Sets as pg_base_Sets
pub use Rattle.pg_base.specs.work.Sets as pg_base_work_Sets
pub use Rattle.pg_base.specs.declared.limits.TheConstants as pg_base_limits_TheConstants
pub use Rattle.pg_base.specs.declared.numbers.RelNo as pg_base_numbers_RelNo
pub use Rattle.pg_base.specs.declared.rel_set.RelSet as pg_base_rel_set_RelSet
pub use Rattle.pg_value.proofs.OrderLaws as pg_value_OrderLaws
pub use Rattle.pg_value.specs.ColumnOrder as pg_value_ColumnOrder
pub use Rattle.pg_value.specs.Order as pg_value_Order
pub use Rattle.pg_value.specs.work.Order as pg_value_work_Order
pub use Rattle.pg_value.specs.Sorting as pg_value_Sorting
pub use Rattle.pg_value.specs.Truths as pg_value_Truths
pub use Rattle.pg_value.specs.Types as pg_value_Types
pub use Rattle.pg_value.specs.declared.columns.Column as pg_value_columns_Column
pub use Rattle.pg_value.specs.declared.operators.Family as pg_value_operators_Family
pub use Rattle.pg_value.specs.declared.operators.Family.TheVariants as pg_value_operators_Family_TheVariants
pub use Rattle.pg_value.specs.declared.operators.Op as pg_value_operators_Op
pub use Rattle.pg_value.specs.declared.operators.Op.TheVariants as pg_value_operators_Op_TheVariants
pub use Rattle.pg_value.specs.declared.operators.Truth as pg_value_operators_Truth
pub use Rattle.pg_value.specs.declared.operators.Truth.TheVariants as pg_value_operators_Truth_TheVariants
pub use Rattle.pg_value.specs.declared.value.SqlType as pg_value_value_SqlType
pub use Rattle.pg_value.specs.declared.value.SqlType.TheVariants as pg_value_value_SqlType_TheVariants
pub use Rattle.pg_value.specs.declared.value.Value as pg_value_value_Value
pub use Rattle.pg_value.specs.declared.value.Value.TheVariants as pg_value_value_Value_TheVariants
