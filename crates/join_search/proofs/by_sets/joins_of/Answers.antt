use Rattle.std.proofs.Common.{ap, map, sym, subst, arith}
use Rattle.std.specs.Prelude.{All}
use Rattle.std.proofs.lemmas.List.Elements.{All-more, All-nil, All-weaker}
use Rattle.std.proofs.lemmas.Result.{IfOk-weaker}
use Rattle.pg_base.specs.declared.rel_set.RelSet.{RelSet}
use Rattle.plan_tree.specs.work.Views.{path}
use Rattle.join_search.specs.work.Joins.{IsJoinPath}
use Rattle.join_search.specs.work.Offers.{AreJoinsServed}
use Rattle.join_search.specs.work.Splits.{IsDivided}
use Rattle.join_search.specs.work.Tables.{none, paths_at}
use Rattle.join_search.proofs.FilledLemmas.{filled-served}
use Rattle.join_search.proofs.ItemLemmas.{all-taken}
use Rattle.join_search.proofs.SearchLemmas.{joins-enough, joins-later, some-joins}
use Rattle.join_search.proofs.by_sets.joins_of.Goals as goal

pub loop-part-init : goal.loop-part-init
loop-part-init c =
    let P = IsJoinPath c.args.at.now.cat.now c.args.at.now.q.now (paths_at c.args.at.now.table.now) c.args.at.now.set none in
    record {
      joins = subst (All P) (ap (map path) (sym c.new-kept.ensures)) (All-nil P);
      served = λ k d lt. absurd (omega (arith, lt));
    }

pub loop-part-preserved : goal.loop-part-preserved
loop-part-preserved c =
    let t = c.args.at.now in
    let fronts = paths_at t.table.now in
    let before = map path c.loop-part.kept in
    let after = map path c.offer_side.new.front in
    let taken = c.offer_side.ensures.takes in
    record {
      joins = taken.paths;
      served = All-more (λ (a : RelSet). (b : RelSet) → IsDivided t.set a b → AreJoinsServed t.cat.now t.q.now t.asked fronts after a b) c.args.filled.now c.loop-part.part-index _ c.loop-part-test.true
          (All-weaker (λ (a : RelSet). (b : RelSet) → IsDivided t.set a b → AreJoinsServed t.cat.now t.q.now t.asked fronts before a b) (λ (a : RelSet). (b : RelSet) → IsDivided t.set a b → AreJoinsServed t.cat.now t.q.now t.asked fronts after a b)
          (λ a h b d. joins-later t.cat.now t.q.now t.asked fronts before after a b taken.still (h b d)) _ c.loop-part.invariant.served) c.in_ok-offer_side.ensures.served;
    }

pub returns-clause-joins : goal.returns-clause-joins
returns-clause-joins c = IfOk-weaker c.front_of.result _ _
    (λ f some. some-joins c.args.at.now.cat.now c.args.at.now.q.now (paths_at c.args.at.now.table.now) c.args.at.now.set (map path c.loop-part.kept) (map path f) some c.loop-part.invariant.joins) c.front_of.ensures.some

pub returns-clause-served : goal.returns-clause-served
returns-clause-served c =
    let t = c.args.at.now in
    let fronts = paths_at t.table.now in
    let kept = map path c.loop-part.kept in
    let all = all-taken (λ (a : RelSet). (b : RelSet) → IsDivided t.set a b → AreJoinsServed t.cat.now t.q.now t.asked fronts kept a b) c.args.filled.now c.loop-part.part-index c.loop-part-test.false c.loop-part.invariant.served in
    IfOk-weaker c.front_of.result _ _
    (λ f enough a b d. joins-enough t.cat.now t.q.now t.asked fronts kept (map path f) a b enough (filled-served t.cat.now t.q.now t.asked fronts kept t.set c.args.filled.now c.requires.filled all a b d)) c.front_of.ensures.enough
