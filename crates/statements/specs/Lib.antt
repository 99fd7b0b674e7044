pub mod Accepted
pub mod Replies
pub mod Scripts
pub mod Askings
pub mod Faults
pub mod Steps
pub mod work
-- What callers name of the crates below.
pub use Rattle.group_reply.specs.reply_Measures as reply_Measures
pub use Rattle.group_reply.specs.reply_work_Measures as reply_work_Measures
pub use Rattle.group_reply.specs.reply_Putting as reply_Putting
pub use Rattle.group_reply.specs.reply_work_Putting as reply_work_Putting
pub use Rattle.group_reply.specs.reply_Replies as reply_Replies
pub use Rattle.group_reply.specs.reply_work_Replies as reply_work_Replies
pub use Rattle.group_reply.specs.reply_measuring_Measured as reply_measuring_Measured
pub use Rattle.group_reply.specs.reply_Answers as reply_Answers
pub use Rattle.group_reply.specs.reply_Effort as reply_Effort
pub use Rattle.check_reply.specs.certificate_reader_Faults as certificate_reader_Faults
pub use Rattle.check_reply.specs.certificate_reader_Reading as certificate_reader_Reading
pub use Rattle.check_reply.specs.certificate_reader_work_Reading as certificate_reader_work_Reading
pub use Rattle.check_reply.specs.certificate_reader_LineLemmas as certificate_reader_LineLemmas
pub use Rattle.check_reply.specs.certificate_reader_PlainLemmas as certificate_reader_PlainLemmas
pub use Rattle.check_reply.specs.certificate_reader_ReadingLemmas as certificate_reader_ReadingLemmas
pub use Rattle.check_reply.specs.certificate_laws_TableLemmas as certificate_laws_TableLemmas
pub use Rattle.check_reply.specs.Checked as check_reply_Checked
pub use Rattle.check_reply.specs.work.Checked as check_reply_work_Checked
pub use Rattle.index_prices.specs.Prices as index_prices_Prices
pub use Rattle.index_prices.specs.work.Prices as index_prices_work_Prices
pub use Rattle.index_prices.specs.Replies as index_prices_Replies
pub use Rattle.plan_reply.specs.Tabled as plan_reply_Tabled
pub use Rattle.plan_reply.specs.Told as plan_reply_Told
pub use Rattle.plan_reply.specs.work.Told as plan_reply_work_Told
pub use Rattle.plan_reply.proofs.OneLemmas as plan_reply_OneLemmas
