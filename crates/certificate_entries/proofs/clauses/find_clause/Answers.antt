use Rattle.std.proofs.Common.{◌∙◌, ℕ, Some, ap, sym}
use Rattle.certificate_entries.proofs.ClauseLemmas.{conjunct-once}
use Rattle.certificate_entries.proofs.clauses.find_clause.Goals as goal

pub returns-then-is_number-clause-only : goal.returns-then-is_number-clause-only
returns-then-is_number-clause-only c = λ n e.
    ap (λ (m : ℕ). Some m) (conjunct-once c.args.cat.now c.args.q.now c.requires.bound c.loop-n.n n c.args.number (sym c.conjunct_of.ensures ∙ c.is_number.ensures.0 c.if-is_number.true) e)
