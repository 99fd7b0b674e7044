use Rattle.std.proofs.Common.{◌≡◌, ◌+◌, ◌≤◌, length}
use Rattle.reply.specs.work.Drawing.{Draws}
use Rattle.reply.proofs.pass.pass_over.Given as goal

abbrev pub invariant-loop : goal.invariant-loop
invariant-loop g l = record {
  drawn : Draws l.counter l.fn.rows l.rows l.fn.fetches l.fetches;
  enough : l.counter ≤ length l.fn.rows.left;
  looked : l.reads + l.rows.allowed ≤ l.fn.reads + l.fn.rows.allowed;
  idle : l.counter ≡ 0 → l.reads ≡ l.fn.reads;
}
