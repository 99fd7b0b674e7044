-- Names: words, and one place each.
use Rattle.std.proofs.Common.{◌≡◌, ◌<◌, ◌≤◌, ℕ, Bool, true, false, ◌||◌, ◌==◌, ◌⊎◌, inl, inr, List, [], ◌∷◌, length, get_or, refl, sym, ap, ◌∙◌, arith}
use Rattle.std.specs.Prelude.{Option, Some, None, MatchOption}
use Rattle.std.specs.List.{list_all}
use Rattle.std.proofs.lemmas.Bool.{cases_lt}
use Rattle.std.proofs.lemmas.List.{get_or-map, length-map}
use Rattle.pg_base.specs.Names.{AreDistinct, is_in_name}
use Rattle.pg_base.proofs.NameLemmas.{name-word}
use Rattle.pg_base.specs.declared.numbers.IndexNo.{IndexNo}
use Rattle.catalog.specs.Contents.{Contents, IsIndex, IsLawful, NamedIndex, index_name_at, index_names, no_index}
use Rattle.catalog.specs.work.Tables.{HasIndexName, IsFreeIndex}

-- of distinct names each has one place
pub one-place : (xs : List (List ℕ)) → AreDistinct xs → (i j : ℕ) → i < length xs → j < length xs → (d : List ℕ) → get_or xs i d ≡ get_or xs j d → i ≡ j
one-place xs apart i j li lj d same = by (cases_lt i j) (cases_lt j i) where
  by : (i < j) ⊎ (j ≤ i) → (j < i) ⊎ (i ≤ j) → i ≡ j
  by (inl low) other = absurd (apart i j d low lj same)
  by (inr le) (inl low) = absurd (apart j i d low li (sym same))
  by (inr le) (inr more) = omega (arith, le, more)

module _ (c : Contents) (lawful : IsLawful c) where
  pub index-word : (i : IndexNo) → IsIndex c i → list_all is_in_name (index_name_at c i) ≡ true
  index-word i lt = name-word (index_name_at c i) (lawful.indexes i.0 no_index lt).name

  name-at : (i : IndexNo) → IsIndex c i → (d : List ℕ) → get_or (index_names c) i.0 d ≡ index_name_at c i
  name-at i lt d = get_or-map (λ (x : NamedIndex). x.name) c.indexes i.0 no_index d lt

  named-below : (i : IndexNo) → IsIndex c i → i.0 < length (index_names c)
  named-below i lt = let long = length-map c.indexes (λ (x : NamedIndex). x.name) in omega (arith, long, lt)

  -- the index of a name
  pub index-found : (i : IndexNo) (word : List ℕ) (o : Option IndexNo) → MatchOption o (IsFreeIndex c word) (HasIndexName c word) → IsIndex c i → word ≡ index_name_at c i → o ≡ Some i
  index-found i word None free lt is = absurd (free (i.0, named-below i lt, name-at i lt word ∙ sym is))
  index-found i word (Some j) found lt is =
      let same : j.0 ≡ i.0 = one-place (index_names c) lawful.indexes_differ j.0 i.0 (named-below j found.0) (named-below i lt) [] (name-at j found.0 [] ∙ (found.1 ∙ (is ∙ sym (name-at i lt [])))) in
      ap (λ (n : ℕ). Some (record { 0 = n })) same
