use Rattle.plan_check.specs.work.Views.{certificate}
use Rattle.join_cover.proofs.ListLemmas.{lists-of, walked}
use Rattle.join_cover.proofs.joins.open_merges.Goals as goal

pub open_firsts-requires-clause-found : goal.open_firsts-requires-clause-found
open_firsts-requires-clause-found c =
    lists-of c.args.j.now.cat.now c.args.j.now.q.now (certificate c.args.j.now.t.now) c.args.outer.0 c.args.inner.0 c.joining-found.result c.classes_of.result.now c.classes_of.ensures c.joining-found.ensures.joining

pub returns : goal.returns
returns c =
    walked c.args.j.now.cat.now c.args.j.now.q.now (certificate c.args.j.now.t.now) c.args.outer.0 c.args.inner.0 c.joining-found.result c.classes_of.result.now c.classes_of.ensures c.joining-found.ensures.joining c.requires.right c.open_firsts.result _ c.open_firsts.ensures
