use Rattle.std.proofs.Common.{◌≡◌, ◌∙◌, ap, ap₂, false, sym, true}
use Rattle.cost_rules.specs.work.Costs.{capped_pair}
use Rattle.pathkeys.specs.Keys.{covers, order_keys}
use Rattle.plan_tree.specs.Costs.{cost}
use Rattle.plan_tree.specs.Keys.{keys_of}
use Rattle.plan_tree.specs.work.Paths.{kept_cost}
use Rattle.plan_tree.specs.work.Views.{path}
use Rattle.planner.proofs.PriceLemmas.{covered-finished, sorted-finished}
use Rattle.planner.proofs.finishing.finished_cost.Goals as goal

pub returns-then-covers-clause-kept : goal.returns-then-covers-clause-kept
returns-then-covers-clause-kept c =
    let contents = c.args.cat.now in
    let q = c.args.q.now in
    let p = path c.args.p.now in
    let keys = order_keys q.classes q.order in
    let same : covers p.keys c.args.order.now ≡ covers (keys_of contents q p.tree) keys = ap₂ covers c.requires.whole.numbers.keys c.requires.order in
    let e : covers (keys_of contents q p.tree) keys ≡ true = sym same ∙ sym c.covers.ensures.prefix ∙ c.if-covers.true in
    c.cost_of.ensures.kept ∙ ap (λ t. capped_pair (kept_cost q.window (cost contents q t))) (sym (covered-finished contents q p.tree e))

pub returns-else-covers-clause-kept : goal.returns-else-covers-clause-kept
returns-else-covers-clause-kept c =
    let contents = c.args.cat.now in
    let q = c.args.q.now in
    let p = path c.args.p.now in
    let keys = order_keys q.classes q.order in
    let same : covers p.keys c.args.order.now ≡ covers (keys_of contents q p.tree) keys = ap₂ covers c.requires.whole.numbers.keys c.requires.order in
    let e : covers (keys_of contents q p.tree) keys ≡ false = sym same ∙ sym c.covers.ensures.prefix ∙ c.if-covers.false in
    c.sorted_cost.ensures.kept keys ∙ ap (λ t. capped_pair (kept_cost q.window (cost contents q t))) (sym (sorted-finished contents q p.tree e))
