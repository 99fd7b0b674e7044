pub mod Checked
pub mod work
-- What callers name of the crates below.
pub use Rattle.certificate_reader.specs.Faults as certificate_reader_Faults
pub use Rattle.certificate_reader.specs.Reading as certificate_reader_Reading
pub use Rattle.certificate_reader.specs.work.Reading as certificate_reader_work_Reading
pub use Rattle.certificate_reader.proofs.LineLemmas as certificate_reader_LineLemmas
pub use Rattle.certificate_reader.proofs.PlainLemmas as certificate_reader_PlainLemmas
pub use Rattle.certificate_reader.proofs.ReadingLemmas as certificate_reader_ReadingLemmas
pub use Rattle.certificate_check.specs.certificate_laws_TableLemmas as certificate_laws_TableLemmas
