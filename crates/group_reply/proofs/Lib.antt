pub mod PrintLemmas
pub mod ColumnLemmas
pub mod PushLemmas
pub mod SeenLemmas
pub mod ShapeLemmas
pub mod DrawnLemmas
pub mod AnswerLemmas
pub mod PrintableLemmas
