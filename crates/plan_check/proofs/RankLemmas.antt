-- Places of entries in another order.
use Rattle.std.proofs.Common.{◌≡◌, ◌<◌, ◌≤◌, ◌+◌, ◌⊎◌, inl, inr, ℕ, List, [], ◌∷◌, ◌++◌, length, get_or, sym, ap, subst, ◌∙◌, arith}
use Rattle.std.specs.Prelude.{Contains}
use Rattle.std.specs.List.Sorted.{IsPermutation}
use Rattle.std.proofs.lemmas.Bool.{cases_lt}
use Rattle.std.proofs.lemmas.Grind.{get_or_default_zero}
use Rattle.std.proofs.lemmas.List.{get_or_push, length_push}
use Rattle.std.proofs.lemmas.List.Elements.{Contains-get_or}
use Rattle.std.proofs.lemmas.List.Sorted.{Contains-permutation, IsPermutation-sym, length_permutation}
use Rattle.std.proofs.Math.ListN.{get_or-append}
use Rattle.plan_check.specs.work.Ranking.{AreFirstPlaces, AreRanked, HasRank}

-- none at first
pub no-places : (xs : List ℕ) → xs ≡ [] → AreFirstPlaces xs 0
no-places xs none = record { long = ap length none; each = λ k lt. absurd (omega (arith, lt)) }

-- one place more
pub place-more : (old new : List ℕ) (k : ℕ) → new ≡ old ++ k ∷ [] → AreFirstPlaces old k → AreFirstPlaces new (k + 1)
place-more old new k grown before = record {
  long = let long = before.long in let longer = ap length grown ∙ length_push old k in omega (arith, long, longer);
  each = λ j lt. by j lt (cases_lt j k);
}
  where
    by : (j : ℕ) → j < k + 1 → (j < k) ⊎ (k ≤ j) → get_or new j 0 ≡ j
    by j lt (inl less) = let long = before.long in ap (λ l. get_or l j 0) grown ∙ (get_or-append old (k ∷ []) 0 j (omega (arith, less, long)) ∙ before.each j less)
    by j lt (inr most) =
        let long = before.long in
        let same : k ≡ j = omega (arith, lt, most) in
        ap (λ l. get_or l j 0) grown ∙ (get_or_push old k 0 j (omega (arith, long, same)) ∙ same)

-- the rank of a number of a list
rank-of : (order : List ℕ) (k : ℕ) → Contains order k → HasRank order k
rank-of order k r = record { rank = r.0; within = r.1; is = sym (get_or_default_zero order r.0 k r.1) ∙ r.2 }

-- places that are exchanged with one another
pub ranked-by : (count : ℕ) (xs order : List ℕ) → AreFirstPlaces xs count → IsPermutation xs order → AreRanked order count
ranked-by count xs order first moved = record {
  long = length_permutation xs order moved ∙ first.long;
  each = λ k lt. rank-of order k (Contains-permutation xs order k moved (subst (Contains xs) (first.each k lt) (Contains-get_or xs k 0 (let long = first.long in omega (arith, lt, long)))));
  within = λ i lt.
      let v : ℕ = get_or order i 0 in
      let s : Contains xs v = Contains-permutation order xs v (IsPermutation-sym xs order moved) (Contains-get_or order i 0 lt) in
      let long = first.long in
      let below : s.0 < count = let within = s.1 in omega (arith, within, long) in
      let same : s.0 ≡ v = sym (first.each s.0 below) ∙ (sym (get_or_default_zero xs s.0 v s.1) ∙ s.2) in
      subst (λ n. n < count) same below;
}
