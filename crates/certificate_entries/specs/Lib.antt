pub mod work
-- What callers name of the crates below.
pub use Rattle.certificate_text.specs.HasText as certificate_text_HasText
pub use Rattle.certificate_text.specs.Texts as certificate_text_Texts
pub use Rattle.certificate_text.specs.work.Texts as certificate_text_work_Texts
pub use Rattle.certificate_text.specs.explain_KeyLemmas as explain_KeyLemmas
pub use Rattle.certificate_text.specs.explain_Texts as explain_Texts
pub use Rattle.certificate_text.specs.explain_work_Texts as explain_work_Texts
pub use Rattle.certificate_text.specs.plan_check_Certificates as plan_check_Certificates
pub use Rattle.certificate_text.specs.plan_check_Views as plan_check_Views
pub use Rattle.certificate_text.specs.plan_check_work_Views as plan_check_work_Views
pub use Rattle.certificate_text.specs.plan_check_entry_Node as plan_check_entry_Node
pub use Rattle.certificate_text.specs.plan_laws_WellBoundLemmas as plan_laws_WellBoundLemmas
