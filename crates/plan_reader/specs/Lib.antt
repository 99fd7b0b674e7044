pub mod Written
pub mod work
-- What callers name of the crates below.
pub use Rattle.plan_lines.specs.certificate_text_Texts as certificate_text_Texts
pub use Rattle.plan_lines.specs.certificate_text_work_Texts as certificate_text_work_Texts
