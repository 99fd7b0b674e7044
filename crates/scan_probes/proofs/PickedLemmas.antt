-- The conditions of the clauses that a test picks, by their numbers.
use Rattle.std.proofs.Common.{◌≡◌, ◌+◌, ℕ, Bool, ◌&&◌, nat_lt, length, sym, ap, ◌∙◌, arith}
use Rattle.std.proofs.lemmas.Bool.{lt-ltb}
use Rattle.eq_classes.specs.Clauses.{Clause, ClassTable}
use Rattle.eq_classes.specs.Listing.{clause_at}
use Rattle.index_match.specs.Numbered.{conditions_of, those}
use Rattle.index_match.proofs.PartLemmas.{clauses_by_number}
use Rattle.path_cost.specs.Estimates.{conditions_from}
use Rattle.path_cost.proofs.KeptLemmas.{where-from}

pub chosen-are : (t u : ClassTable) → u ≡ t → (test : Clause → Bool) (chosen : ℕ → Bool) → ((k : ℕ) → chosen k ≡ nat_lt k (length u.clauses) && test (clause_at u.clauses k))
    → conditions_from 0 chosen u.clauses ≡ conditions_of (those t test)
chosen-are t u same test chosen is =
    where-from test chosen u.clauses 0 (λ k lt.
    let z : 0 + k ≡ k = omega arith in
    ap chosen z ∙ is k ∙ ap (λ (b : Bool). b && test (clause_at u.clauses k)) (lt-ltb k (length u.clauses) lt))
    ∙ sym (clauses_by_number test 0 u.clauses) ∙ ap (λ (x : ClassTable). conditions_of (those x test)) same
