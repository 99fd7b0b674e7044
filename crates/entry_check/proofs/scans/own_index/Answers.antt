use Rattle.std.proofs.Common.{◌∙◌, ap, ℕ, Bool, sym}
use Rattle.std.proofs.lemmas.Bool.{false≢true}
use Rattle.pg_base.specs.Sets.{has}
use Rattle.pg_base.specs.declared.rel_set.RelSet.{RelSet}
use Rattle.plan_tree.specs.Costs.{scan_cost}
use Rattle.plan_tree.specs.work.Paths.{kept_cost}
use Rattle.plan_tree.proofs.BoundLemmas.{lawful-rows}
use Rattle.cost_rules.specs.work.Costs.{capped_pair}
use Rattle.cost_rules.specs.declared.pair.Pair.{Pair}
use Rattle.plan_check.specs.work.Views.{entry}
use Rattle.entry_check.specs.work.Owning.{tree_of}
use Rattle.entry_check.proofs.ScanLemmas.{kept-cut, scan-judged, tree-cost, tree-made, tree-param, tree-plain, tree-rows, tree-set}
use Rattle.entry_check.proofs.scans.own_index.Goals as goal

pub index_scan_cost-cost-requires-clause-index : goal.index_scan_cost-cost-requires-clause-index
index_scan_cost-cost-requires-clause-index c = tree-made c.args.cat.now c.args.q.now c.args.s (c.is_built.ensures.0 c.if-not-is_built.false)

pub returns-then-not-is_alone : goal.returns-then-not-is_alone
returns-then-not-is_alone c = λ h.
    false≢true (sym c.if-not-is_alone.true ∙ c.is_alone.ensures.1 (λ k. ap (λ (f : ℕ → Bool). f k) (sym (tree-set c.args.cat.now c.args.q.now c.args.s)) ∙ h.plan.set_is k))

pub returns-then-not-is_built : goal.returns-then-not-is_built
returns-then-not-is_built c = λ h. false≢true (sym c.if-not-is_built.true ∙ c.is_built.ensures.1 h.plan.built)

pub returns-then-not-keys_are : goal.returns-then-not-keys_are
returns-then-not-keys_are c = λ h. false≢true (sym c.if-not-keys_are.true ∙ c.keys_are.ensures.1 (c.items.ensures.list ∙ h.keys))

pub returns : goal.returns
returns c =
    let contents = c.args.cat.now in
    let q = c.args.q.now in
    let s = c.args.s in
    let e = entry c.args.e.now in
    scan-judged contents q e (tree_of s) s.rel (c.is_built.ensures.0 c.if-not-is_built.false) (tree-plain contents q s) (tree-set contents q s) c.kept_of.result c.rows_given-rows.result c.numbers_of.result c.numbers_of.ensures.some c.numbers_of.ensures.none
    (c.is_alone.ensures.0 c.if-not-is_alone.false)
    (λ k. tree-param contents q s k ∙ ap (λ (p : RelSet). has p.0 k) c.requires.param)
    (sym c.items.ensures.list ∙ c.keys_are.ensures.0 c.if-not-keys_are.false)
    (lawful-rows contents q c.lawful.ensures)
    (c.kept_of.ensures.kept ∙ ap (kept_cost q.window) c.index_scan_cost-cost.ensures.rule ∙ kept-cut q.window (scan_cost contents q s.rel s.index s.param s.only) ∙ ap (λ (x : Pair). capped_pair (kept_cost q.window x)) (tree-cost contents q s))
    (c.rows_given-rows.ensures.rows ∙ tree-rows contents q s)
