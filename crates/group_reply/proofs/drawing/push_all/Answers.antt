use Rattle.executor.specs.work.Numbers.{numbers}
use Rattle.group_explain.specs.reply_Settings.{world_of}
use Rattle.group_explain.specs.reply_DrawingLemmas.{next_is, rest_are, some_left}
use Rattle.group_runs.specs.Seen.{seen_of}
use Rattle.group_reply.proofs.PushLemmas.{next-alone, pushed-more}
use Rattle.group_reply.proofs.drawing.push_all.Goals as goal

pub push_tuple-requires-clause-tuple : goal.push_tuple-requires-clause-tuple
push_tuple-requires-clause-tuple g c =
    next_is (world_of c.args.at.now) c.args.at.now.q.now (numbers c.items.result.now) c.next.new.self.left c.drawn.rows.left
    (some_left c.in_ok-tuple.field-0 c.in-Some.tuple c.items.result.now c.drawn.rows.left c.next.new.self.left c.in-Some.is c.items.ensures c.in_ok-tuple.ensures.some) c.drawn.invariant.tuples

pub push_tuple-requires-clause-together : goal.push_tuple-requires-clause-together
push_tuple-requires-clause-together g c =
    next-alone (seen_of (world_of c.args.at.now) c.args.at.now.q.now c.args.columns.now.keys.now c.args.columns.now.args.now) c.args.rows.now c.drawn.rows c.args.groups.now c.drawn.groups _ _ _ _ c.drawn.invariant.pushed
    c.next.new.self (numbers c.items.result.now)
    (some_left c.in_ok-tuple.field-0 c.in-Some.tuple c.items.result.now c.drawn.rows.left c.next.new.self.left c.in-Some.is c.items.ensures c.in_ok-tuple.ensures.some) c.requires.together

pub drawn-preserved : goal.drawn-preserved
drawn-preserved g c =
    let left = some_left c.in_ok-tuple.field-0 c.in-Some.tuple c.items.result.now c.drawn.rows.left c.next.new.self.left c.in-Some.is c.items.ensures c.in_ok-tuple.ensures.some in
    record {
      pushed = pushed-more (seen_of (world_of c.args.at.now) c.args.at.now.q.now c.args.columns.now.keys.now c.args.columns.now.args.now) c.args.rows.now c.drawn.rows c.args.groups.now c.drawn.groups _ _ _ _
          c.drawn.invariant.pushed c.next.new.self (numbers c.items.result.now) left c.push_tuple.new.groups _ _ _ c.in_ok-push_tuple.ensures.pushed c.in_ok-push_tuple.ensures.kept
          c.in_ok-tuple.ensures.exact c.in_ok-tuple.ensures.reads c.in_ok-push_tuple.ensures.reads;
      tuples = rest_are (world_of c.args.at.now) c.args.at.now.q.now (numbers c.items.result.now) c.next.new.self.left c.drawn.rows.left left c.drawn.invariant.tuples;
    }
