-- An index has its name alone.
use Rattle.std.proofs.Common.{◌≡◌, ◌<◌, ◌⊎◌, ℕ, zero, suc, List, length, get_or, Contains, inl, inr, refl, sym, ap, ◌∙◌, arith}
use Rattle.std.proofs.lemmas.List.{get_or-map, length-map}
use Rattle.pg_base.specs.Names.{AreDistinct}
use Rattle.pg_base.specs.declared.numbers.IndexNo.{IndexNo}
use Rattle.catalog.specs.Contents.{Contents, NamedIndex, index_names, no_index}
use Rattle.catalog.specs.work.Tables.{HasIndexName}

in-order : (m n : ℕ) → (m < n) ⊎ ((m ≡ n) ⊎ (n < m))
in-order zero zero = inr (inl refl)
in-order zero (suc n) = inl (omega arith)
in-order (suc m) zero = inr (inr (omega arith))
in-order (suc m) (suc n) = by (in-order m n)
  where
    by : (m < n) ⊎ ((m ≡ n) ⊎ (n < m)) → (suc m < suc n) ⊎ ((suc m ≡ suc n) ⊎ (suc n < suc m))
    by (inl lt) = inl (omega (arith, lt))
    by (inr (inl e)) = inr (inl (ap suc e))
    by (inr (inr lt)) = inr (inr (omega (arith, lt)))

module _ (c : Contents) (name : List ℕ) where
  name-at : (i : IndexNo) → HasIndexName c name i → get_or (index_names c) i.0 name ≡ name
  name-at i h = get_or-map (λ (y : NamedIndex). y.name) c.indexes i.0 no_index name h.0 ∙ h.1

  within : (i : IndexNo) → HasIndexName c name i → i.0 < length (index_names c)
  within i h = let long = length-map c.indexes (λ (y : NamedIndex). y.name) in let lt : i.0 < length c.indexes = h.0 in omega (arith, lt, long)

  pub name-there : (i : IndexNo) → HasIndexName c name i → Contains (index_names c) name
  name-there i h = (i.0, within i h, name-at i h)

  pub one-index : AreDistinct (index_names c) → (i j : IndexNo) → HasIndexName c name i → HasIndexName c name j → i ≡ j
  one-index differ i j h k = ap (λ (n : ℕ). record { 0 = n }) (by (in-order i.0 j.0))
    where
      by : (i.0 < j.0) ⊎ ((i.0 ≡ j.0) ⊎ (j.0 < i.0)) → i.0 ≡ j.0
      by (inl lt) = absurd (differ i.0 j.0 name lt (within j k) (name-at i h ∙ sym (name-at j k)))
      by (inr (inl e)) = e
      by (inr (inr lt)) = absurd (differ j.0 i.0 name lt (within i h) (name-at j k ∙ sym (name-at i h)))
