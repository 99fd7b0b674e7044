use Rattle.std.proofs.Common.{◌≤◌, ◌∙◌, arith, length, refl, sym, true≢false}
use Rattle.plan_lines.proofs.KeyLemmas.{before-more, before-none, none-before, table-found}
use Rattle.plan_lines.proofs.indexes.has_table.Goals as goal

pub loop-table-init : goal.loop-table-init
loop-table-init c = before-none c.args.q.now c.args.t

pub returns-then-eq : goal.returns-then-eq
returns-then-eq c = (
  λ yes. table-found c.args.q.now c.items-table-items.result.now c.loop-table.table-index c.loop-table-item.result c.args.t (c.items-table-items.ensures ∙ c.range_of.ensures) c.loop-table-test.true c.loop-table-item.is (sym c.eq.ensures ∙ c.if-eq.true),
  λ is. refl,
)

pub loop-table-preserved : goal.loop-table-preserved
loop-table-preserved c =
    before-more c.args.q.now c.items-table-items.result.now c.loop-table.table-index c.loop-table-item.result c.args.t (c.items-table-items.ensures ∙ c.range_of.ensures)
    c.loop-table-test.true c.loop-table-item.is (sym c.eq.ensures ∙ c.if-eq.false) c.loop-table.invariant

pub returns : goal.returns
returns c =
    let low = c.loop-table-test.false in
    let most : length c.items-table-items.result.now ≤ c.loop-table.table-index = omega (arith, low) in
    (λ wrong. absurd (true≢false (sym wrong)), λ is. absurd (none-before c.args.q.now c.items-table-items.result.now c.loop-table.table-index c.args.t (c.items-table-items.ensures ∙ c.range_of.ensures) most c.loop-table.invariant is))
