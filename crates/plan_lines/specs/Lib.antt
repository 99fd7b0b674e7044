pub mod HasText
pub mod Stands
pub mod work
-- What callers name of the crates below.
pub use Rattle.certificate_entries.proofs.ClauseLemmas as certificate_entries_ClauseLemmas
pub use Rattle.certificate_entries.proofs.NameLemmas as certificate_entries_NameLemmas
pub use Rattle.certificate_entries.proofs.NumberLemmas as certificate_entries_NumberLemmas
pub use Rattle.certificate_entries.specs.certificate_text_HasText as certificate_text_HasText
pub use Rattle.certificate_entries.specs.certificate_text_Texts as certificate_text_Texts
pub use Rattle.certificate_entries.specs.certificate_text_work_Texts as certificate_text_work_Texts
pub use Rattle.certificate_entries.specs.explain_Texts as explain_Texts
pub use Rattle.certificate_entries.specs.explain_work_Texts as explain_work_Texts
pub use Rattle.explain_laws.proofs.ClassLemmas as explain_laws_ClassLemmas
pub use Rattle.explain_laws.proofs.ConjunctLemmas as explain_laws_ConjunctLemmas
pub use Rattle.explain_laws.proofs.NameLemmas as explain_laws_NameLemmas
pub use Rattle.explain_laws.proofs.SplitLemmas as explain_laws_SplitLemmas
