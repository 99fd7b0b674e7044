use Rattle.std.proofs.Common.{◌∙◌, ◌++◌, ℕ, List, ap, append_assoc, codes, refl, sym, true≢false}
use Rattle.std.specs.Prelude.{Some, slice_get}
use Rattle.certificate_entries.specs.explain_Texts.{conjunct_by, number_text}
use Rattle.certificate_entries.proofs.ClauseLemmas.{conjunct-small}
use Rattle.plan_lines.proofs.ScannedLemmas.{none-mapped}
use Rattle.plan_lines.proofs.CompareLemmas.{number-found, some-of}
use Rattle.plan_lines.proofs.compared.behind_conjunct.Goals as goal

pub returns-in_err-number-clause-only : goal.returns-in_err-number-clause-only
returns-in_err-number-clause-only c = λ rest e.
    let m = some-of (conjunct_by (slice_get c.args.q.now.classes.clauses c.args.n)) c.requires.clause in
    let r = c.read_number.ensures.only m.0 (codes "\n" ++ rest) (conjunct-small c.args.cat.now c.args.q.now c.requires.bound c.args.n m.0 m.1) refl
    (e ∙ (append_assoc (number_text (conjunct_by (slice_get c.args.q.now.classes.clauses c.args.n))) (codes "\n") rest ∙ ap (λ o. number_text o ++ (codes "\n" ++ rest)) m.1)) in
    absurd (none-mapped {B = ℕ × List ℕ} (λ p. (p.0, p.1.now)) c.read_number.result (m.0, codes "\n" ++ rest) c.in_err-number.was r)

pub returns-else-is_clause-clause-only : goal.returns-else-is_clause-clause-only
returns-else-is_clause-clause-only c = λ rest e.
    let m = some-of (conjunct_by (slice_get c.args.q.now.classes.clauses c.args.n)) c.requires.clause in
    let r = c.read_number.ensures.only m.0 (codes "\n" ++ rest) (conjunct-small c.args.cat.now c.args.q.now c.requires.bound c.args.n m.0 m.1) refl
    (e ∙ (append_assoc (number_text (conjunct_by (slice_get c.args.q.now.classes.clauses c.args.n))) (codes "\n") rest ∙ ap (λ o. number_text o ++ (codes "\n" ++ rest)) m.1)) in
    let same = number-found c.read_number.result c.in_ok-number.number c.in_ok-number.left m.0 (codes "\n" ++ rest) c.in_ok-number.was r in
    absurd (true≢false (sym (c.is_clause.ensures.1 (c.find_clause.ensures.only c.args.n (m.1 ∙ ap (λ (k : ℕ). Some k) (sym same)))) ∙ c.if-is_clause.false))
