use Rattle.std.proofs.Common.{◌∙◌, ap}
use Rattle.std.specs.Prelude.{Some}
use Rattle.pathkeys.specs.Keys.{Keys}
use Rattle.pg_base.specs.Sets.{has}
use Rattle.eq_classes.specs.Parts.{union}
use Rattle.plan_tree.specs.Plans.{Plan, merge, set_of}
use Rattle.plan_tree.specs.work.Views.{plan}
use Rattle.plan_lines.proofs.KeyLemmas.{reads-few}
use Rattle.plan_reader.proofs.NodeLemmas.{keys-read, keys-same, no-keys}
use Rattle.plan_reader.proofs.nodes.merge_of.Goals as goal

pub both_sets-set-requires-clause-outer : goal.both_sets-set-requires-clause-outer
both_sets-set-requires-clause-outer c = reads-few c.args.cat.now c.args.q.now (plan c.args.outer) c.requires.bound c.requires.outer

pub both_sets-set-requires-clause-inner : goal.both_sets-set-requires-clause-inner
both_sets-set-requires-clause-inner c = reads-few c.args.cat.now c.args.q.now (plan c.args.inner) c.requires.bound c.requires.inner

pub returns-in_ok-made-in-Some-clause-only : goal.returns-in_ok-made-in-Some-clause-only
returns-in_ok-made-in-Some-clause-only c = λ keys h e.
    let r = keys-read c.args.cat.now c.args.q.now (has c.both_sets-set.result.0) (union (set_of (plan c.args.outer)) (set_of (plan c.args.inner))) c.args.behind.now c.in_ok-keys.field-0 c.both_sets-set.ensures c.in_ok-keys.ensures.only keys h e in
    ap (λ (p : Plan). Some p) (c.in_ok-made-in-Some.ensures ∙ ap (λ (k : Keys). merge k (plan c.args.outer) (plan c.args.inner)) (keys-same c.in_ok-keys.field-0 c.in-Some.keys keys c.in-Some.is r))

pub returns-in-None-clause-only : goal.returns-in-None-clause-only
returns-in-None-clause-only c = λ keys h e.
    let r = keys-read c.args.cat.now c.args.q.now (has c.both_sets-set.result.0) (union (set_of (plan c.args.outer)) (set_of (plan c.args.inner))) c.args.behind.now c.in_ok-keys.field-0 c.both_sets-set.ensures c.in_ok-keys.ensures.only keys h e in
    absurd (no-keys c.in_ok-keys.field-0 keys c.in-None.is r)
