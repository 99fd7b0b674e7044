use Rattle.std.proofs.Common.{◌≡◌, List, ℕ, ap₂}
use Rattle.std.specs.Prelude.{Some}
use Rattle.plan_lines.proofs.ByteLemmas.{cut-at}
use Rattle.plan_lines.proofs.lines.cut.Goals as goal

pub returns-then-end-text-clause-only : goal.returns-then-end-text-clause-only
returns-then-end-text-clause-only c = λ t rest lacks is.
    let parts = cut-at c.args.b c.find-end.result t rest c.args.text.now is (c.find-end.ensures.only t rest lacks is) c.if-end-text.true in
    ap₂ (λ (x y : List ℕ). Some (x, y)) parts.0 parts.1
