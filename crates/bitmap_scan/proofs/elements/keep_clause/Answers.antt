use Rattle.std.proofs.Common.{rules, ◌≡◌, ◌∙◌, ap, map, subst, sym}
use Rattle.std.proofs.lemmas.List.Elements.{All-from_recursion}
use Rattle.pg_base.specs.declared.numbers.IndexNo.{IndexNo}
use Rattle.pg_expr.specs.Cond.{Cond}
use Rattle.pg_expr.specs.work.View.{cond}
use Rattle.index_match.specs.Arms.{arms_of}
use Rattle.eq_classes.proofs.ConditionLemmas.{listed_conds}
use Rattle.plan_tree.specs.Bitmaps.{MatchesArm, by_clause, condition_at}
use Rattle.plan_tree.specs.Plans.{some_arm}
use Rattle.plan_tree.specs.work.Views.{bits}
use Rattle.plan_tree.specs.declared.bits.BitTree.{Or}
use Rattle.plan_tree.specs.declared.bits.BitTree.TheViews.{the_lemmas}
use Rattle.plan_tree.specs.declared.bits.BitTree.TheVariants.{rolls-Or}
use Rattle.plan_tree.specs.declared.bits.BitTree.TheFolds.{fold-roll-BitTree, fold_out-BitTree, fold-roll-BitTrees, fold_out-BitTrees}
use Rattle.plan_tree.proofs.ElementLemmas.{matched-or}
use Rattle.plan_tree.proofs.FrontLemmas.{all-sources}
use Rattle.bitmap_scan.proofs.ArmLemmas.{clause-least, clause-part}
use Rattle.bitmap_scan.proofs.KeptLemmas.{kept-of, only-within}
use Rattle.bitmap_scan.specs.work.Chosen.{IsLeastTree}
use Rattle.bitmap_scan.proofs.elements.keep_clause.Goals as goal

pub least_matches-requires-clause-few : goal.least_matches-requires-clause-few
least_matches-requires-clause-few c = c.in-Some.ensures.few c.args.cat.now c.requires.query

pub least_matches-requires-clause-some : goal.least_matches-requires-clause-some
least_matches-requires-clause-some c =
    let arms = c.in-Some.arms.now in
    let P = λ (arm : Cond). (i : IndexNo) × MatchesArm c.args.cat.now c.args.q.now c.args.r.0 arm i in
    let is = matched-or c.args.cat.now c.args.q.now c.args.r.0 (condition_at c.args.q.now c.args.n) arms c.in-Some.ensures.arms in
    all-sources cond P arms (All-from_recursion P (map cond arms) (is.1 c.requires.matched))

pub returns-clause-least : goal.returns-clause-least
returns-clause-least c =
    let arms = map cond c.in-Some.arms.now in
    let is : bits (Or c.args.n c.in_ok-indexes.indexes) ≡ some_arm c.args.n c.in_ok-indexes.indexes.items = search (rules, the_lemmas, rolls-Or, fold-roll-BitTree, fold_out-BitTree, fold-roll-BitTrees, fold_out-BitTrees) in
    subst (IsLeastTree c.args.cat.now c.args.q.now c.args.r c.args.p (by_clause c.args.n)) (sym is)
    (clause-least c.args.cat.now c.args.q.now c.args.r c.args.p c.args.n arms c.in_ok-indexes.indexes.items c.in_ok-indexes.part (ap arms_of c.in-Some.ensures.arms ∙ listed_conds arms) c.in_ok-indexes.ensures)

pub returns-clause-kept : goal.returns-clause-kept
returns-clause-kept c =
    let arms = map cond c.in-Some.arms.now in
    let is : bits (Or c.args.n c.in_ok-indexes.indexes) ≡ some_arm c.args.n c.in_ok-indexes.indexes.items = search (rules, the_lemmas, rolls-Or, fold-roll-BitTree, fold_out-BitTree, fold-roll-BitTrees, fold_out-BitTrees) in
    let part = clause-part c.args.cat.now c.args.q.now c.args.r c.args.p c.args.n arms c.in_ok-indexes.indexes.items c.in_ok-indexes.part (ap arms_of c.in-Some.ensures.arms ∙ listed_conds arms) c.in_ok-indexes.ensures in
    kept-of c.args.cat.now c.args.q.now c.args.r c.args.p _ (some_arm c.args.n c.in_ok-indexes.indexes.items) is part c.only-used.ensures
    (λ k e. only-within k c.args.n _ (sym (c.only-used.ensures k) ∙ e) c.requires.clause) c.others_named-named.ensures
