use Rattle.std.proofs.Common.{All, length}
use Rattle.executor.specs.work.Numbers.{IsTupleOf}
use Rattle.group_explain.specs.reply_Settings.{world_of}
use Rattle.group_runs.specs.Seen.{seen_of}
use Rattle.group_reply.proofs.PushLemmas.{HasPushed}
use Rattle.group_reply.proofs.drawing.push_all.Given as goal

abbrev pub invariant-drawn : goal.invariant-drawn
invariant-drawn g l = record {
  pushed : HasPushed (seen_of (world_of l.at) l.at.q.now l.columns.keys.now l.columns.args.now) l.fn.rows l.rows l.fn.groups l.groups l.fn.fetches l.fetches l.fn.reads l.reads;
  tuples : All (IsTupleOf (world_of l.at) l.at.q.now) l.rows.left;
}

abbrev pub decreases-drawn : goal.decreases-drawn
decreases-drawn g l = length l.rows.left
