use Rattle.std.proofs.Common.{◌≡◌, ap, sym, ◌∙◌, IsTrue, get_or, subst, ◌<◌}
use Rattle.std.proofs.lemmas.List.{get_or_default}
use Rattle.pg_expr.specs.work.View.{cond}
use Rattle.pg_expr.proofs.CondLaws.{conds-at, conds-length}
use Rattle.pg_expr.proofs.same.+same.Goals as goal

pub are_same-returns-then-not-is_same : goal.are_same-returns-then-not-is_same
are_same-returns-then-not-is_same t c = (
  λ f. cc,
  λ e.
      let same : cond (get_or c.args.a.now c.loop-i.i c.index-a-i.result) ≡ cond (get_or c.args.b.now c.loop-i.i c.index-a-i.result) = conds-at c.args.a.now c.args.b.now c.loop-i.i c.index-a-i.result e c.loop-i-test.true in
      let other : get_or c.args.b.now c.loop-i.i c.index-a-i.result ≡ get_or c.args.b.now c.loop-i.i c.index-b-i.result = get_or_default c.args.b.now c.loop-i.i c.index-a-i.result c.index-b-i.result (subst (λ n. c.loop-i.i < n) (conds-length c.args.a.now c.args.b.now e) c.loop-i-test.true) in
      let yes : IsTrue c.is_same.result = c.is_same.ensures.1 (ap cond c.index-a-i.is ∙ same ∙ ap cond (other ∙ sym c.index-b-i.is)) in
      let no = c.if-not-is_same.true in
      cc,
)
