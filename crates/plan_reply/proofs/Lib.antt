pub mod ReplyLemmas
pub mod OneLemmas
pub mod TableReplyLemmas
