pub mod WriterLemmas
pub mod PieceLaws
pub mod LineLaws
pub mod PrintedLemmas
