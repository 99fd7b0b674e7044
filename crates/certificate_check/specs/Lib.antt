pub mod work
-- What callers name of the crates below.
pub use Rattle.certificate_laws.specs.plan_laws_WellBoundLemmas as plan_laws_WellBoundLemmas
pub use Rattle.scan_cover.proofs.AtomLemmas as scan_cover_AtomLemmas
pub use Rattle.scan_cover.proofs.MarkLemmas as scan_cover_MarkLemmas
pub use Rattle.scan_cover.specs.entry_check_PlaceLemmas as entry_check_PlaceLemmas
pub use Rattle.scan_cover.specs.entry_check_ScanLemmas as entry_check_ScanLemmas
pub use Rattle.scan_cover.specs.join_cover_CoverLemmas as join_cover_CoverLemmas
pub use Rattle.entry_check.proofs.PartLemmas as entry_check_PartLemmas
pub use Rattle.certificate_laws.specs.certificate_text_HasText as certificate_text_HasText
pub use Rattle.certificate_laws.specs.work.Arms as certificate_laws_Arms
pub use Rattle.certificate_laws.specs.join_search_SetLemmas as join_search_SetLemmas
pub use Rattle.certificate_laws.specs.explain_laws_ParamLemmas as explain_laws_ParamLemmas
pub use Rattle.certificate_laws.proofs.KeysLemmas as certificate_laws_KeysLemmas
pub use Rattle.certificate_laws.proofs.NodeLemmas as certificate_laws_NodeLemmas
pub use Rattle.certificate_laws.proofs.EntryLemmas as certificate_laws_EntryLemmas
pub use Rattle.certificate_laws.specs.explain_laws_SplitLemmas as explain_laws_SplitLemmas
pub use Rattle.certificate_laws.specs.certificate_text_Texts as certificate_text_Texts
pub use Rattle.certificate_laws.specs.certificate_text_work_Texts as certificate_text_work_Texts
pub use Rattle.certificate_laws.proofs.TableLemmas as certificate_laws_TableLemmas
