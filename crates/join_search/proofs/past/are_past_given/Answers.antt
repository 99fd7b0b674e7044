use Rattle.std.proofs.Common.{◌∙◌, sym, subst, true≢false}
use Rattle.std.specs.Prelude.{All}
use Rattle.join_search.specs.work.Merges.{IsNoCheaper}
use Rattle.join_search.specs.work.Tables.{none, paths_at}
use Rattle.join_search.proofs.NestLemmas.{nests-apart}
use Rattle.join_search.proofs.PastLemmas.{nests-past}
use Rattle.join_search.proofs.past.are_past_given.Goals as goal

pub returns-then-not-within : goal.returns-then-not-within
returns-then-not-within c = λ is front.
    let t = c.args.task.now in
    nests-apart t.cat.now t.q.now t.asked (paths_at c.args.table.now) front c.args.outer.set c.args.inner c.args.p c.requires.placed (λ within. true≢false (sym (c.within.ensures.1 within) ∙ c.if-not-within.true))

pub returns : goal.returns
returns c = λ is front.
    let t = c.args.task.now in
    let fronts = paths_at c.args.table.now in
    let a = c.args.outer.set in
    nests-past t.cat.now t.q.now t.asked t.whole c.requires.task.whole a c.args.inner c.args.p (fronts a none) (fronts c.args.inner c.args.p) c.args.outer.rows c.least_of-first.result c.least_of-second.result c.repeated-each.result
    (c.requires.placed.paths a none) (c.requires.placed.paths c.args.inner c.args.p)
    (subst (All (IsNoCheaper c.least_of-first.result)) c.requires.paths c.least_of-first.ensures) (subst (All (IsNoCheaper c.least_of-second.result)) c.paths.ensures c.least_of-second.ensures)
    c.requires.rows c.repeated-each.ensures.startup c.repeated-each.ensures.total (c.is_past.ensures is) front
