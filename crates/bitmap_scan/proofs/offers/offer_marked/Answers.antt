use Rattle.std.proofs.Common.{◌∙◌, List, map, refl, subst, sym, true≢false}
use Rattle.std.proofs.lemmas.Result.{on_ok_weaker}
use Rattle.pg_base.specs.Sets.{has}
use Rattle.eq_classes.specs.Clauses.{one}
use Rattle.plan_tree.specs.work.Fronts.{HasDominating}
use Rattle.plan_tree.specs.Least.{IsAdmissible}
use Rattle.plan_tree.specs.Plans.{BitTree, bitmap}
use Rattle.plan_tree.specs.Space.{IsPlanOf}
use Rattle.plan_tree.specs.work.Views.{path}
use Rattle.bitmap_scan.specs.work.Chosen.{AreChosen, combined}
use Rattle.bitmap_scan.specs.work.ElementTrees.{IsKept}
use Rattle.bitmap_scan.proofs.KeptLemmas.{marked-each, marked-trees, named-together}
use Rattle.bitmap_scan.proofs.offers.offer_marked.Goals as goal

pub returns-then-not-are_named-clause-dominated : goal.returns-then-not-are_named-clause-dominated
returns-then-not-are_named-clause-dominated c =
    let contents = c.args.cat.now in
    let q = c.args.q.now in
    let at = c.args.at in
    let m = c.args.m in
    λ plan admissible. absurd (true≢false (sym (c.are_named.ensures.1 (λ k. plan.built.named k ∙ named-together contents q at.rel at.param m.mask m.kept.now k c.requires.kept)) ∙ c.if-not-are_named.true))

pub offer_chosen-requires-clause-chosen : goal.offer_chosen-requires-clause-chosen
offer_chosen-requires-clause-chosen c =
    let m = c.args.m in
    let trees = marked-trees (λ k. k.now) c.deref.result.now c.in_ok-chosen.chosen.items m.mask m.kept.now m.kept.now c.deref.ensures.value c.in_ok-chosen.ensures refl in
    subst (AreChosen c.args.cat.now c.args.q.now c.args.at.rel c.args.at.param) (sym trees) c.requires.chosen

pub offer_chosen-requires-clause-kept : goal.offer_chosen-requires-clause-kept
offer_chosen-requires-clause-kept c =
    let m = c.args.m in
    marked-each (IsKept c.args.cat.now c.args.q.now c.args.at.rel c.args.at.param) (λ k. k.now) c.deref.result.now c.in_ok-chosen.chosen.items m.mask m.kept.now m.kept.now
    c.deref.ensures.value c.in_ok-chosen.ensures refl c.requires.kept

pub returns-clause-dominated : goal.returns-clause-dominated
returns-clause-dominated c =
    let contents = c.args.cat.now in
    let q = c.args.q.now in
    let at = c.args.at in
    let m = c.args.m in
    let trees = marked-trees (λ k. k.now) c.deref.result.now c.in_ok-chosen.chosen.items m.mask m.kept.now m.kept.now c.deref.ensures.value c.in_ok-chosen.ensures refl in
    let tree = λ (ts : List BitTree). bitmap at.rel at.param (combined ts) in
    on_ok_weaker c.offer_chosen.result
    (λ offered. subst (λ (ts : List BitTree). IsPlanOf contents q (one at.rel.0) (has at.param.0) (tree ts) → IsAdmissible contents q (tree ts) → HasDominating contents q (map path c.offer_chosen.new.front) (tree ts)) trees offered)
    c.offer_chosen.ensures.dominated
