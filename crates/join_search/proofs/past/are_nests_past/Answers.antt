use Rattle.std.proofs.Common.{◌∙◌, arith}
use Rattle.std.proofs.lemmas.List.Elements.{All-more}
use Rattle.pg_base.specs.declared.rel_set.RelSet.{RelSet}
use Rattle.join_search.specs.work.Offers.{AreNestsServed}
use Rattle.join_search.specs.work.Tables.{none, paths_at}
use Rattle.join_search.proofs.ItemLemmas.{all-taken}
use Rattle.join_search.proofs.NestLemmas.{nests-all}
use Rattle.join_search.proofs.past.are_nests_past.Goals as goal

pub loop-p-init : goal.loop-p-init
loop-p-init c = λ front k d lt. absurd (omega (arith, lt))

pub loop-p-preserved : goal.loop-p-preserved
loop-p-preserved c =
    let t = c.args.task.now in
    let fronts = paths_at c.args.table.now in
    λ front. All-more (λ (p : RelSet). AreNestsServed t.cat.now t.q.now t.asked front (fronts c.args.outer.set none) (fronts c.args.inner p)) c.deref-p-items.result.now c.loop-p.p-index _ c.loop-p-test.true (c.loop-p.invariant front)
    (c.are_past_given.ensures c.if-not-are_past_given.false front)

pub returns : goal.returns
returns c =
    let t = c.args.task.now in
    let fronts = paths_at c.args.table.now in
    let a = c.args.outer.set in
    λ is front. nests-all t.cat.now t.q.now t.asked c.args.table.now front a c.args.inner c.deref-p-items.result.now (c.deref-p-items.ensures.value ∙ c.in_ok-params.ensures)
    (all-taken (λ (p : RelSet). AreNestsServed t.cat.now t.q.now t.asked front (fronts a none) (fronts c.args.inner p)) c.deref-p-items.result.now c.loop-p.p-index c.loop-p-test.false (c.loop-p.invariant front))
