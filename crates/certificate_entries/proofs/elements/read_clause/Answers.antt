use Rattle.std.proofs.Common.{◌≡◌, ◌++◌, ◌∙◌, ℕ, Some, ap, codes, refl, sym}
use Rattle.std.proofs.lemmas.Bool.{true≢false}
use Rattle.pg_base.proofs.OptionLemmas.{none-some-too as none-some}
use Rattle.pg_base.proofs.OptionLemmas.{some-same}
use Rattle.certificate_entries.proofs.ClauseLemmas.{conjunct-small}
use Rattle.certificate_entries.proofs.elements.read_clause.Goals as goal

pub returns-in_err-number-clause-only : goal.returns-in_err-number-clause-only
returns-in_err-number-clause-only c = λ n m rest is e.
    let r = c.number.ensures.only m (codes "(" ++ rest) (conjunct-small c.args.cat.now c.args.q.now c.requires.bound n m is) e refl in
    absurd (none-some c.number.result m c.in_err-number.was r.0)

pub returns-in_err-clause-clause-only : goal.returns-in_err-clause-clause-only
returns-in_err-clause-clause-only c = λ n m rest is e.
    let r = c.number.ensures.only m (codes "(" ++ rest) (conjunct-small c.args.cat.now c.args.q.now c.requires.bound n m is) e refl in
    let same : m ≡ c.in_ok-number.number = some-same m c.in_ok-number.number (sym r.0 ∙ c.in_ok-number.was) in
    absurd (none-some c.find_clause.result n c.in_err-clause.was (c.find_clause.ensures.only n (is ∙ ap (λ (k : ℕ). Some k) same)))

pub returns-then-eat-clause-only : goal.returns-then-eat-clause-only
returns-then-eat-clause-only c = λ n m rest is e.
    let r = c.number.ensures.only m (codes "(" ++ rest) (conjunct-small c.args.cat.now c.args.q.now c.requires.bound n m is) e refl in
    let same : m ≡ c.in_ok-number.number = some-same m c.in_ok-number.number (sym r.0 ∙ c.in_ok-number.was) in
    let found = c.find_clause.ensures.only n (is ∙ ap (λ (k : ℕ). Some k) same) in
    (ap (λ (k : ℕ). Some k) (some-same c.in_ok-clause.clause n (sym c.in_ok-clause.was ∙ found)), (c.if-eat.ensures.took rest r.1).1)

pub returns-else-eat-clause-only : goal.returns-else-eat-clause-only
returns-else-eat-clause-only c = λ n m rest is e.
    let r = c.number.ensures.only m (codes "(" ++ rest) (conjunct-small c.args.cat.now c.args.q.now c.requires.bound n m is) e refl in
    absurd (true≢false (sym (c.if-eat.ensures.took rest r.1).0))
