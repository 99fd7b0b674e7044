use Rattle.std.proofs.Common.{◌≡◌, All, length}
use Rattle.executor.specs.work.Numbers.{IsTupleOf}
use Rattle.reply.specs.work.Drawing.{Draws}
use Rattle.reply.specs.Effort.{limit_in}
use Rattle.reply.specs.work.Settings.{types_shown, world_of}
use Rattle.reply.proofs.DrawingLemmas.{HasDrawn, IsWithin}
use Rattle.reply.proofs.rows.put_rows.Given as goal

abbrev pub invariant-drawn : goal.invariant-drawn
invariant-drawn g l = record {
  drawn : HasDrawn (world_of l.at) l.at.q.now l.fn.rows l.rows (g.K.Sink.held l.fn.out) (g.K.Sink.held l.out) l.fn.page.pending.items l.page.pending.items l.count l.fn.reads l.reads;
  draws : Draws l.count l.fn.rows l.rows l.fn.fetches l.fetches;
  within : IsWithin (limit_in l.at.q.now.window) l.count;
  quiet : g.K.Sink.faults l.out ≡ g.K.Sink.faults l.fn.out;
  idle : l.count ≡ 0 → l.reads ≡ l.fn.reads;
  tuples : All (IsTupleOf (world_of l.at) l.at.q.now) l.rows.left;
  types : l.page.types.items ≡ types_shown l.at;
}

abbrev pub decreases-drawn : goal.decreases-drawn
decreases-drawn g l = length l.rows.left
