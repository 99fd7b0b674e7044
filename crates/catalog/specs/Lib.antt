pub mod Contents
pub mod Statistics
pub mod Indexes
pub mod Tables
pub mod Range
pub mod Analysed
pub mod Candidates
pub mod work
-- What callers name of the crates below.
pub use Rattle.opfamily.specs.Answers as opfamily_Answers
pub use Rattle.opfamily.specs.work.Answers as opfamily_work_Answers
pub use Rattle.opfamily.specs.KeyOrder as opfamily_KeyOrder
pub use Rattle.opfamily.specs.work.KeyOrder as opfamily_work_KeyOrder
pub use Rattle.opfamily.specs.declared.classes.IndexKey as opfamily_classes_IndexKey
pub use Rattle.opfamily.specs.declared.classes.Method as opfamily_classes_Method
pub use Rattle.opfamily.specs.declared.classes.Method.TheVariants as opfamily_classes_Method_TheVariants
pub use Rattle.opfamily.specs.pg_value_ColumnOrder as pg_value_ColumnOrder
pub use Rattle.opfamily.specs.pg_value_Sorting as pg_value_Sorting
pub use Rattle.opfamily.specs.pg_value_Truths as pg_value_Truths
pub use Rattle.opfamily.specs.pg_value_columns_Column as pg_value_columns_Column
pub use Rattle.opfamily.specs.pg_value_operators_Family as pg_value_operators_Family
pub use Rattle.opfamily.specs.pg_value_operators_Family_TheVariants as pg_value_operators_Family_TheVariants
pub use Rattle.opfamily.specs.pg_value_operators_Op as pg_value_operators_Op
pub use Rattle.opfamily.specs.pg_value_operators_Op_TheVariants as pg_value_operators_Op_TheVariants
pub use Rattle.opfamily.specs.pg_value_value_Value as pg_value_value_Value
pub use Rattle.opfamily.specs.pg_value_value_Value_TheVariants as pg_value_value_Value_TheVariants
pub use Rattle.pg_base.specs.declared.limits.TheConstants as pg_base_limits_TheConstants
pub use Rattle.pg_base.specs.declared.numbers.RelNo as pg_base_numbers_RelNo
pub use Rattle.pg_base.specs.declared.numbers.TableNo as pg_base_numbers_TableNo
pub use Rattle.pg_expr.specs.declared.operand.ColRef as pg_expr_operand_ColRef
