-- Working words beside those of `Replies`.
use Rattle.std.specs.Prelude.{ℕ, List}
use Rattle.group_reply.specs.reply_Effort.{exactly}
use Rattle.group_reply.specs.reply_Replies.{Reply}

-- the reply with some bytes printed, nothing fetched and nothing looked at
abbrev pub told : List ℕ → Reply
told bytes = record { bytes = bytes; fetched = exactly 0; looked = 0 }
