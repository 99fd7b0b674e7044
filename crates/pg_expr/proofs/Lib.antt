pub mod AtomSetLaws
pub mod ColumnLaws
pub mod CondLaws
pub mod DefinedLaws
pub mod FormLaws
pub mod KeptLaws
pub mod PushedLaws
pub mod TruthLaws
