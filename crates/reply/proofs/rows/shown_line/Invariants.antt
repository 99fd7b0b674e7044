use Rattle.std.proofs.Common.{◌≡◌, map, take}
use Rattle.reply.specs.work.Showing.{cell_of}
use Rattle.reply.proofs.rows.shown_line.Given as goal

abbrev pub invariant-loop-column : goal.invariant-loop-column
invariant-loop-column l = map (λ v. v.now) l.values.items ≡ map (cell_of (map (λ r. r.now) l.rows)) (take l.column-index l.columns)
