-- Names that tables, indexes and candidates have.
use Rattle.std.proofs.Common.{◌≡◌, ◌<◌, ◌↔◌, ◌||◌, ◌⊎◌, inl, inr, IsTrue, ℕ, zero, suc, Bool, true, false, List, [], ◌∷◌, ◌++◌, length, get_or, Contains, Option, MatchOption, is_some, refl, sym, ap, subst, ◌∙◌, arith}
use Rattle.std.specs.List.{list_any}
use Rattle.std.specs.Str.{bytes_eq}
use Rattle.std.proofs.lemmas.List.{map-append}
use Rattle.std.proofs.lemmas.List.Elements.{Contains-append_cases, Contains-append_left, Contains-append_right}
use Rattle.std.proofs.lemmas.Map.Views.{Contains-from_any}
use Rattle.std.proofs.lemmas.Slice.Eq.{bytes_eq-Decides}
use Rattle.pg_base.specs.declared.numbers.IndexNo.{IndexNo}
use Rattle.pg_base.specs.declared.numbers.TableNo.{TableNo}
use Rattle.catalog.specs.Contents.{Contents, NamedIndex, all_names, index_names, table_names}
use Rattle.catalog.specs.work.Tables.{HasIndexName, HasTableName, IsFree, IsFreeIndex}
use Rattle.catalog.proofs.NamedLemmas.{free, some-index, taken, taken-index}
use Rattle.catalog.specs.Candidates.{with_candidates}
use Rattle.catalog.specs.work.Candidates.{names_of}

or-true : (b : Bool) → b || true ≡ true
or-true true = refl
or-true false = refl

any-from : (q : List ℕ) (ks : List (List ℕ)) (k : ℕ) → k < length ks → get_or ks k q ≡ q → list_any (bytes_eq q) ks ≡ true
any-from q [] k lt at = absurd (omega (arith, lt))
any-from q (x ∷ xs) zero lt at = ap (λ b. b || list_any (bytes_eq q) xs) ((bytes_eq-Decides q x).1 (sym at))
any-from q (x ∷ xs) (suc k) lt at = ap (λ b. bytes_eq q x || b) (any-from q xs k (omega (arith, lt)) at) ∙ or-true (bytes_eq q x)

any-names : (q : List ℕ) (xs : List NamedIndex) → list_any (λ x. bytes_eq q x.name) xs ≡ list_any (bytes_eq q) (names_of xs)
any-names q [] = refl
any-names q (x ∷ xs) = ap (λ b. bytes_eq q x.name || b) (any-names q xs)

among : (q : List ℕ) (xs : List NamedIndex) → list_any (λ x. bytes_eq q x.name) xs ≡ true → Contains (names_of xs) q
among q xs is = Contains-from_any (λ x y. (bytes_eq-Decides x y).0) q (names_of xs) (sym (any-names q xs) ∙ is)

among-any : (q : List ℕ) (xs : List NamedIndex) → Contains (names_of xs) q → list_any (λ x. bytes_eq q x.name) xs ≡ true
among-any q xs (k, lt, at) = any-names q xs ∙ any-from q (names_of xs) k lt at

-- the names of a catalogue and of candidates
names-with : (c : Contents) (xs : List NamedIndex) → all_names (with_candidates c xs) ≡ table_names c ++ (index_names c ++ names_of xs)
names-with c xs = ap (λ l. table_names c ++ l) (map-append (λ (x : NamedIndex). x.name) c.indexes xs)

module _ (c : Contents) (xs : List NamedIndex) (q : List ℕ) where
  pub by-table : Contains (table_names c) q → Contains (all_names (with_candidates c xs)) q
  by-table h = Contains-append_left (table_names c) (index_names (with_candidates c xs)) q h

  pub by-index : Contains (index_names c) q → Contains (all_names (with_candidates c xs)) q
  by-index h = subst (λ l. Contains l q) (sym (names-with c xs)) (Contains-append_right (table_names c) (index_names c ++ names_of xs) q (Contains-append_left (index_names c) (names_of xs) q h))

  pub by-candidate : Contains (names_of xs) q → Contains (all_names (with_candidates c xs)) q
  by-candidate h = subst (λ l. Contains l q) (sym (names-with c xs)) (Contains-append_right (table_names c) (index_names c ++ names_of xs) q (Contains-append_right (index_names c) (names_of xs) q h))

  cases : Contains (all_names (with_candidates c xs)) q → Contains (table_names c) q ⊎ (Contains (index_names c) q ⊎ Contains (names_of xs) q)
  cases h =
      elim (Contains-append_cases (table_names c) (index_names c ++ names_of xs) q (subst (λ l. Contains l q) (names-with c xs) h)) [
        | inl k ↦ inl k
        | inr k ↦ inr (Contains-append_cases (index_names c) (names_of xs) q k)
      ]

  -- the name is that of a table, or of an index
  pub taken-by-table : (r : Option TableNo) → MatchOption r (IsFree c q) (HasTableName c q) → is_some r ≡ true → IsTrue true ↔ Contains (all_names (with_candidates c xs)) q
  taken-by-table r m is = (λ _. by-table (taken c q r m is), λ _. refl)

  pub taken-by-index : (r : Option IndexNo) → MatchOption r (IsFreeIndex c q) (HasIndexName c q) → is_some r ≡ true → IsTrue true ↔ Contains (all_names (with_candidates c xs)) q
  taken-by-index r m is = (λ _. by-index (taken-index c q r m is), λ _. refl)

  none-index : (r : Option IndexNo) → MatchOption r (IsFreeIndex c q) (HasIndexName c q) → is_some r ≡ false → Contains (index_names c) q → ⊥
  none-index r m none h = let some = some-index c q r m h in cc (some, none)

  -- the name is that of no table and no index: whether a candidate has it
  pub taken-by-candidate : (b : Bool) (t : Option TableNo) (i : Option IndexNo) → MatchOption t (IsFree c q) (HasTableName c q) → MatchOption i (IsFreeIndex c q) (HasIndexName c q) →
      is_some t ≡ false → is_some i ≡ false → b ≡ list_any (λ x. bytes_eq q x.name) xs → IsTrue b ↔ Contains (all_names (with_candidates c xs)) q
  taken-by-candidate b t i tm im no-table no-index is = (
    λ h. by-candidate (among q xs (sym is ∙ h)),
    λ h. elim (cases h) [
      | inl k ↦ absurd (free c q t tm no-table k)
      | inr k ↦ is ∙ by k
    ],
  )
    where
      by : Contains (index_names c) q ⊎ Contains (names_of xs) q → list_any (λ x. bytes_eq q x.name) xs ≡ true
      by (inl k) = absurd (none-index i im no-index k)
      by (inr k) = among-any q xs k
