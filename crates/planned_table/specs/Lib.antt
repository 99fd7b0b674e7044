pub mod work
-- What callers name of the crates below.
pub use Rattle.certificate_laws.specs.certificate_text_HasText as certificate_text_HasText
pub use Rattle.certificate_laws.specs.certificate_text_Texts as certificate_text_Texts
pub use Rattle.certificate_laws.specs.certificate_text_work_Texts as certificate_text_work_Texts
pub use Rattle.certificate_laws.specs.explain_Texts as explain_Texts
pub use Rattle.certificate_laws.specs.explain_work_Texts as explain_work_Texts
pub use Rattle.certificate_laws.specs.Printing as certificate_laws_Printing
pub use Rattle.certificate_laws.specs.work.Printing as certificate_laws_work_Printing
pub use Rattle.certificate_laws.specs.work.Arms as certificate_laws_Arms
