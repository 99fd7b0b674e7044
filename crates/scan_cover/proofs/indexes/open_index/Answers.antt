use Rattle.std.proofs.Common.{◌∙◌, ap, refl, sym}
use Rattle.std.proofs.lemmas.Bool.{false≢true}
use Rattle.pathkeys.specs.work.Finding.{class_numbers}
use Rattle.cost_rules.specs.work.Costs.{capped_pair}
use Rattle.cost_rules.specs.declared.pair.Pair.{Pair}
use Rattle.plan_tree.specs.Costs.{scan_cost}
use Rattle.plan_tree.specs.work.Paths.{kept_cost}
use Rattle.plan_tree.proofs.BoundLemmas.{lawful-rows}
use Rattle.plan_check.specs.declared.verdict.Plain.TheVariants as plain
use Rattle.join_cover.specs.entry_check_Owning.{tree_of}
use Rattle.join_cover.specs.entry_check_ScanLemmas.{kept-cut, tree-cost, tree-few, tree-made, tree-rows}
use Rattle.scan_cover.proofs.ToldLemmas.{if-none-weaker, if-some-weaker, index-with, match-both}
use Rattle.scan_cover.proofs.indexes.open_index.Goals as goal

pub keys_of-keys-requires-clause-index : goal.keys_of-keys-requires-clause-index
keys_of-keys-requires-clause-index c = tree-made c.args.j.now.cat.now c.args.j.now.q.now c.args.s (c.is_built.ensures.0 c.if-not-is_built.false)

pub keys_of-keys-requires-clause-few : goal.keys_of-keys-requires-clause-few
keys_of-keys-requires-clause-few c = tree-few c.args.j.now.cat.now c.args.j.now.q.now c.args.s c.lawful.ensures (c.is_built.ensures.0 c.if-not-is_built.false)

pub index_scan_cost-cost-requires-clause-index : goal.index_scan_cost-cost-requires-clause-index
index_scan_cost-cost-requires-clause-index c = tree-made c.args.j.now.cat.now c.args.j.now.q.now c.args.s (c.is_built.ensures.0 c.if-not-is_built.false)

pub returns-then-not-is_built : goal.returns-then-not-is_built
returns-then-not-is_built c = λ built. absurd (false≢true (sym c.if-not-is_built.true ∙ c.is_built.ensures.1 built))

pub returns-in-Some : goal.returns-in-Some
returns-in-Some c =
    let contents = c.args.j.now.cat.now in
    let q = c.args.j.now.q.now in
    let s = c.args.s in
    let built = c.is_built.ensures.0 c.if-not-is_built.false in
    let numbers = c.in-Some.ensures.some contents (tree_of s) (lawful-rows contents q c.lawful.ensures)
    (c.kept_of.ensures.kept ∙ ap (kept_cost q.window) c.index_scan_cost-cost.ensures.rule ∙ kept-cut q.window (scan_cost contents q s.rel s.index s.param s.only) ∙ ap (λ (x : Pair). capped_pair (kept_cost q.window x)) (tree-cost contents q s))
    (c.rows_given-rows.ensures.rows ∙ tree-rows contents q s) in
    let with = index-with contents q s c.one.result (class_numbers c.as_slice.result.now) c.in-Some.own built c.one.ensures (ap class_numbers c.as_slice.ensures.value ∙ c.keys_of-keys.ensures) numbers in
    match-both c.open_with.result _ _ (if-none-weaker c.open_with.result _ _ (λ h. h contents (tree_of s) c.requires.right with) c.open_with.ensures.none)
    (if-some-weaker c.open_with.result _ _ (λ x h. h contents (tree_of s) (plain.Index s.rel s.index s.backward s.only s.param) c.requires.right with refl) c.open_with.ensures.some)

pub returns-in-None : goal.returns-in-None
returns-in-None c = λ built admissible.
    let contents = c.args.j.now.cat.now in
    let q = c.args.j.now.q.now in
    let s = c.args.s in
    absurd (c.in-None.ensures.none contents (tree_of s)
    (c.kept_of.ensures.kept ∙ ap (kept_cost q.window) c.index_scan_cost-cost.ensures.rule ∙ kept-cut q.window (scan_cost contents q s.rel s.index s.param s.only) ∙ ap (λ (x : Pair). capped_pair (kept_cost q.window x)) (tree-cost contents q s))
    admissible)
