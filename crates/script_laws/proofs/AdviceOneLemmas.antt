-- There is one advice.
use Rattle.std.proofs.Common.{◌≡◌, ◌≤◌, ◌<◌, ◌+◌, ◌++◌, ◌∷◌, [], ℕ, zero, suc, Bool, true, false, cond, List, length, refl, sym, ap, ap₂, subst, ◌∙◌, arith, Ordering, Less, Equal, Greater}
use Rattle.std.specs.Prelude.{codes}
use Rattle.std.specs.Fmt.{decimal}
use Rattle.std.proofs.Common.{inl, inr}
use Rattle.std.proofs.lemmas.Bool.{cases_lt}
use Rattle.std.specs.Cmp.Lexicographic.{slice_cmp}
use Rattle.std.specs.Ordering.{is_gt, nat_cmp, ordering_reverse, ordering_then}
use Rattle.std.proofs.lemmas.Bool.{true≢false}
use Rattle.std.proofs.lemmas.Grind.{common_steps}
use Rattle.pg_base.specs.Sets.{has}
use Rattle.advisor.specs.Choices.{IsAdvice, Priced, Prices, places, preference}
use Rattle.advisor.proofs.BestLemmas.{preference_total}
use Rattle.advisor.proofs.PlaceLemmas.{both-alike, first-has, rest, rest-all, second-has}
use Rattle.catalog.specs.Contents.{Contents, NamedIndex}
use Rattle.plan_laws.specs.Moved.{added_from}
use Rattle.statements.specs.index_prices_Replies.{IsReplyTo, use_lines}
use Rattle.sql_query.specs.Queries.{Query}

-- neither of two comes before the other
never : (o p : Ordering) → o ≡ ordering_reverse p → is_gt o ≡ false → is_gt p ≡ false → o ≡ Equal
never Equal p back h k = refl
never Greater p back h k = absurd (true≢false h)
never Less Less back h k = cc
never Less Equal back h k = cc
never Less Greater back h k = absurd (true≢false k)

both-tie : (o p : Ordering) → ordering_then o p ≡ Equal → (o ≡ Equal) × (p ≡ Equal)
both-tie Less p e = absurd (cc)
both-tie Equal p e = (refl, e)
both-tie Greater p e = absurd (cc)

same-number : (a b : ℕ) → nat_cmp a b ≡ Equal → a ≡ b
same-number a b e = grind (arith, common_steps)

-- lists of places that tie have the same members
member-by : (n a b j : ℕ) (x y : Bool) → j < n → length (rest n a j) ≡ length (rest n b j) → slice_cmp nat_cmp (rest n a j) (rest n b j) ≡ Equal → has a j ≡ x → has b j ≡ y → x ≡ y
member-by n a b j true true lt long tie h k = refl
member-by n a b j true false lt long tie h k = let wrong = sym (first-has n a b j lt long h k) ∙ tie in absurd (cc (wrong))
member-by n a b j false true lt long tie h k = let wrong = sym (second-has n a b j lt long h k) ∙ tie in absurd (cc (wrong))
member-by n a b j false false lt long tie h k = refl

members : (left n a b j k : ℕ) → n ≤ j + left → length (rest n a j) ≡ length (rest n b j) → slice_cmp nat_cmp (rest n a j) (rest n b j) ≡ Equal → j ≤ k → k < n → has a k ≡ has b k
members zero n a b j k short long tie le lt = absurd (omega (arith, short, le, lt))
members (suc left) n a b j k short long tie le lt =
    let inside : j < n = omega (arith, le, lt) in
    let here = member-by n a b j (has a j) (has b j) inside long tie refl refl in
    let next = both-alike n a b j inside long (has a j) refl (sym here) in
    elim (cases_lt j k) [
      | inl later ↦ members left n a b (j + 1) k (omega (arith, short)) next.0 (next.1 ∙ tie) (omega (arith, later)) lt
      | inr first ↦ let same : k ≡ j = omega (arith, le, first) in subst (λ (m : ℕ). has a m ≡ has b m) (sym same) here
    ]

added-same : (xs : List NamedIndex) (i : ℕ) (a b : ℕ → Bool) → ((k : ℕ) → i ≤ k → k < i + length xs → a k ≡ b k) → added_from i a xs ≡ added_from i b xs
added-same [] i a b same = refl
added-same (x ∷ xs) i a b same =
    let later = added-same xs (i + 1) a b (λ k le lt. same k (omega (arith, le)) (omega (arith, lt))) in
    ap₂ (λ (v : Bool) (l : List NamedIndex). cond v (x ∷ l) l) (same i (omega arith) (omega arith)) later

module _ (prices : Prices) (queries n most : ℕ) (p o : Priced) (h : IsAdvice prices queries n most p) (k : IsAdvice prices queries n most o) where
  tied : preference n p o ≡ Equal
  tied = never (preference n p o) (preference n o p) ((preference_total n).antisymm p o) (h.first o k.priced) (k.first p h.priced)

  parts : (nat_cmp p.sum o.sum ≡ Equal) × (ordering_then (nat_cmp (length (places n p.set)) (length (places n o.set))) (slice_cmp nat_cmp (places n p.set) (places n o.set)) ≡ Equal)
  parts = both-tie (nat_cmp p.sum o.sum) _ tied

  pub one-total : p.sum ≡ o.sum
  one-total = same-number p.sum o.sum parts.0

  pub one-set : (j : ℕ) → j < n → has p.set j ≡ has o.set j
  one-set j lt =
      let later = both-tie (nat_cmp (length (places n p.set)) (length (places n o.set))) _ parts.1 in
      let long = ap length (rest-all n p.set) ∙ (same-number _ _ later.0 ∙ sym (ap length (rest-all n o.set))) in
      members n n p.set o.set 0 j (omega arith) long (ap₂ (slice_cmp nat_cmp) (rest-all n p.set) (rest-all n o.set) ∙ later.1) (omega arith) lt

-- two texts of the advice are one
pub advice-one : (c : Contents) (candidates : List NamedIndex) (queries : List Query) (most : ℕ) (a b : List ℕ) → IsReplyTo c candidates queries most a → IsReplyTo c candidates queries most b → a ≡ b
advice-one c candidates queries most a b h k =
    let sum = one-total _ (length queries) (length candidates) most h.advice k.advice h.is k.is in
    let same = added-same candidates 0 (has h.advice.set) (has k.advice.set) (λ j le lt. one-set _ (length queries) (length candidates) most h.advice k.advice h.is k.is j (omega (arith, lt))) in
    h.printed ∙ ap₂ (λ (xs : List NamedIndex) (n : ℕ). use_lines xs ++ (codes "cost=" ++ (decimal n ++ codes "\n"))) same sum ∙ sym k.printed
