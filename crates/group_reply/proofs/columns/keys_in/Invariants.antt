use Rattle.std.proofs.Common.{◌≡◌, map, take}
use Rattle.group_explain.specs.reply_Showing.{cell_of}
use Rattle.group_reply.proofs.columns.keys_in.Given as goal

abbrev pub invariant-loop-column : goal.invariant-loop-column
invariant-loop-column l = l.values.items ≡ map (cell_of (map (λ r. r.now) l.rows)) (take l.column-index l.columns)
