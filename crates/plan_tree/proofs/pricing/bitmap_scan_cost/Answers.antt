use Rattle.std.proofs.Common.{◌≡◌, ◌∙◌, ◌&&◌, ◌||◌, ℕ, ap, nat_lt, length}
use Rattle.pg_base.specs.Sets.{has}
use Rattle.pg_expr.specs.work.AtomSets.{contains}
use Rattle.cost_rules.specs.work.Costs.{capped_pair}
use Rattle.path_cost.specs.Costs.{bitmap_cost}
use Rattle.plan_tree.specs.Bitmaps.{uses}
use Rattle.plan_tree.specs.Costs.{part_of}
use Rattle.plan_tree.specs.work.Views.{bits}
use Rattle.plan_tree.proofs.PricingLemmas.{bitmap-costs}
use Rattle.plan_tree.proofs.pricing.bitmap_scan_cost.Goals as goal

pub returns-clause-rule : goal.returns-clause-rule
returns-clause-rule c =
    let contents = c.args.cat.now in
    let q = c.args.q.now in
    let r = c.args.r.0 in
    let p = has c.args.param.0 in
    let tree = bits c.args.tree.now in
    let exact = part_of contents q c.args.r c.args.param tree in
    let used : (k : ℕ) → contains c.use_tree.new.used k ≡ nat_lt k (length q.classes.clauses) && uses contents q r p tree k =
    λ k. c.use_tree.ensures k ∙ ap (λ b. b || (nat_lt k (length q.classes.clauses) && uses contents q r p tree k)) (c.empty-used.ensures k) in
    c.bitmap.ensures.rule
    ∙ (λ z. capped_pair (bitmap_cost contents (c.range_of.ensures z) (c.classes_of.ensures z) r p (contains c.use_tree.new.used) c.tree_part-part.result))
    ∙ bitmap-costs contents q.range q.classes r p (contains c.use_tree.new.used) (uses contents q r p tree) c.tree_part-part.result exact used c.tree_part-part.ensures.part
