use Rattle.std.proofs.Common.{◌≡◌, ◌≤◌, List, ℕ, Vec, Global, ap, subst, sym, ◌∙◌, length}
use Rattle.pg_base.specs.declared.limits.TheConstants.{MOST_SCRIPT_BYTES}
use Rattle.pgplan.specs.Script.{script}
use Rattle.pgplan.proofs.TextLemmas.{begun-by, script-all}
use Rattle.pgplan.proofs.LengthLemmas.{script-short}
use Rattle.pgplan.proofs.script.sample_script.Goals as goal

pub returns-clause-text : goal.returns-clause-text
returns-clause-text c =
    ap (λ (v : Vec ℕ Global). v.items) c.into_bytes.ensures.value
    ∙ script-all _ _ _ c.args.n _ (begun-by _ c.in_ok-text.ensures.ok) c.in_ok-append_data.ensures.state c.in_ok-append_data.ensures.text c.in_ok-append_queries.ensures

pub returns-clause-short : goal.returns-clause-short
returns-clause-short c =
    let whole : c.into_bytes.result.items ≡ script c.args.n = returns-clause-text c in
    let P : List ℕ → Type 0 = λ t. length t ≤ MOST_SCRIPT_BYTES in
    subst P (sym whole) (script-short c.args.n)
