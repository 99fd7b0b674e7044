pub mod Texts
pub mod Plans
pub mod GroupPlans
pub mod work
-- What callers name of the crates below.
pub use Rattle.reply.proofs.DrawingLemmas as reply_DrawingLemmas
pub use Rattle.reply.proofs.PuttingLemmas as reply_PuttingLemmas
pub use Rattle.reply.proofs.ReplyLemmas as reply_ReplyLemmas
pub use Rattle.reply.proofs.RowLemmas as reply_RowLemmas
pub use Rattle.reply.specs.Answers as reply_Answers
pub use Rattle.reply.specs.Effort as reply_Effort
pub use Rattle.reply.specs.Measures as reply_Measures
pub use Rattle.reply.specs.work.Measures as reply_work_Measures
pub use Rattle.reply.specs.Putting as reply_Putting
pub use Rattle.reply.specs.work.Putting as reply_work_Putting
pub use Rattle.reply.specs.Replies as reply_Replies
pub use Rattle.reply.specs.work.Replies as reply_work_Replies
pub use Rattle.reply.specs.work.Settings as reply_Settings
pub use Rattle.reply.specs.work.Showing as reply_Showing
pub use Rattle.reply.specs.work.Stops as reply_Stops
pub use Rattle.reply.specs.declared.measuring.Measured as reply_measuring_Measured
pub use Rattle.reply.specs.declared.stop.Broken as reply_stop_Broken
pub use Rattle.reply.specs.declared.stop.Broken.TheVariants as reply_stop_Broken_TheVariants
pub use Rattle.reply.specs.declared.stop.Stop as reply_stop_Stop
pub use Rattle.reply.specs.declared.stop.Stop.TheVariants as reply_stop_Stop_TheVariants
pub use Rattle.reply.specs.explain_Texts as explain_Texts
pub use Rattle.reply.specs.explain_work_Texts as explain_work_Texts
