pub mod Replies
pub mod work
-- What callers name of the crates below.
pub use Rattle.group_explain.specs.explain_Texts as explain_Texts
pub use Rattle.group_explain.specs.explain_work_Texts as explain_work_Texts
pub use Rattle.group_explain.specs.Plans as group_explain_Plans
pub use Rattle.group_explain.specs.work.Plans as group_explain_work_Plans
pub use Rattle.group_explain.specs.reply_PuttingLemmas as reply_PuttingLemmas
pub use Rattle.group_explain.specs.reply_Answers as reply_Answers
pub use Rattle.group_explain.specs.reply_Effort as reply_Effort
pub use Rattle.group_explain.specs.reply_Measures as reply_Measures
pub use Rattle.group_explain.specs.reply_work_Measures as reply_work_Measures
pub use Rattle.group_explain.specs.reply_Putting as reply_Putting
pub use Rattle.group_explain.specs.reply_work_Putting as reply_work_Putting
pub use Rattle.group_explain.specs.reply_Replies as reply_Replies
pub use Rattle.group_explain.specs.reply_work_Replies as reply_work_Replies
pub use Rattle.group_explain.specs.reply_measuring_Measured as reply_measuring_Measured
pub use Rattle.group_explain.specs.reply_stop_Broken as reply_stop_Broken
pub use Rattle.group_explain.specs.reply_stop_Broken_TheVariants as reply_stop_Broken_TheVariants
pub use Rattle.group_explain.specs.reply_stop_Stop as reply_stop_Stop
pub use Rattle.group_explain.specs.reply_stop_Stop_TheVariants as reply_stop_Stop_TheVariants
