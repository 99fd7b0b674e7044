-- Names tell indexes, relations and columns apart.
use Prim.Native.Nat.{suc}
use Rattle.std.proofs.Common.{◌≡◌, ◌<◌, ◌≤◌, ◌≢◌, inl, inr, ℕ, ◌+◌, Bool, true, false, nat_eq, nat_lt, List, [], ◌∷◌, get_or, length, drop, refl, sym, ◌∙◌, ap, subst, arith}
use Rattle.std.specs.Prelude.{All}
use Rattle.std.proofs.lemmas.Bool.Decides.{nat_tests}
use Rattle.std.proofs.lemmas.List.{get_or-map, length-map}
use Rattle.std.proofs.lemmas.List.Elements.{All-head, All-tail}
use Rattle.pg_base.specs.Names.{AreDistinct, IsName}
use Rattle.pg_base.specs.declared.numbers.ColNo.{ColNo}
use Rattle.pg_base.specs.declared.numbers.IndexNo.{IndexNo}
use Rattle.pg_base.specs.declared.numbers.RelNo.{RelNo}
use Rattle.pg_base.specs.declared.numbers.TableNo.{TableNo}
use Rattle.catalog.specs.Contents.{Contents, IsColumn, IsIndex, IsLawful, IsTable, NamedIndex, index_name_at, index_names, name_at, no_index, no_table, table_at}
use Rattle.catalog.specs.Range.{IsRange, Range, aliases, relation_at}
use Rattle.eq_classes.proofs.ListLemmas.{IsIn, contains_from_in}
use Rattle.eq_classes.specs.Clauses.{Set}
use Rattle.explain.specs.Texts.{aliases_in, with_alias}
use Rattle.explain_laws.proofs.SplitLemmas.{Names}

pub distinct-at : (xs : List (List ℕ)) (i j : ℕ) → AreDistinct xs → i < length xs → j < length xs → get_or xs i [] ≡ get_or xs j [] → i ≡ j
distinct-at xs i j h li lj e = by (nat_lt i j) (nat_lt j i) refl refl
  where
    by : (a b : Bool) → nat_lt i j ≡ a → nat_lt j i ≡ b → i ≡ j
    by true b p q = let lt : i < j = grind (arith, nat_tests, p) in absurd (h i j [] lt lj e)
    by false true p q = let lt : j < i = grind (arith, nat_tests, q) in absurd (h j i [] lt li (sym e))
    by false false p q = grind (arith, nat_tests, p, q)

module _ (c : Contents) (lawful : IsLawful c) where
  pub index-name : (i : IndexNo) → IsIndex c i → IsName (index_name_at c i)
  index-name i lt = (lawful.indexes i.0 no_index lt).name

  pub index-same : (i j : IndexNo) → IsIndex c i → IsIndex c j → index_name_at c i ≡ index_name_at c j → i ≡ j
  index-same i j li lj e =
      let long : length (index_names c) ≡ length c.indexes = length-map c.indexes (λ (x : NamedIndex). x.name) in
      let same : i.0 ≡ j.0 =
      distinct-at (index_names c) i.0 j.0 lawful.indexes_differ (omega (arith, long, li)) (omega (arith, long, lj))
      (get_or-map (λ (x : NamedIndex). x.name) c.indexes i.0 no_index [] li ∙ e ∙ sym (get_or-map (λ (x : NamedIndex). x.name) c.indexes j.0 no_index [] lj)) in
      ap (λ (n : ℕ). let x : IndexNo = record { 0 = n } in x) same

  pub table-name : (t : TableNo) → IsTable c t → IsName (table_at c t).name
  table-name t lt = (lawful.tables t.0 no_table lt).name

  pub column-name : (t : TableNo) (x : ColNo) → IsTable c t → IsColumn c t x → IsName (name_at c t x)
  column-name t x lt of = let table = lawful.tables t.0 no_table lt in let wide = table.width in table.names x.0 [] (omega (arith, wide, of))

  pub column-same : (t : TableNo) (x y : ColNo) → IsTable c t → IsColumn c t x → IsColumn c t y → name_at c t x ≡ name_at c t y → x ≡ y
  column-same t x y lt lx ly e =
      let table = lawful.tables t.0 no_table lt in
      let wide = table.width in
      let same : x.0 ≡ y.0 = distinct-at (table_at c t).names x.0 y.0 table.distinct (omega (arith, wide, lx)) (omega (arith, wide, ly)) e in
      ap (λ (n : ℕ). let z : ColNo = record { 0 = n } in z) same

abbrev nowhere : TableNo × List ℕ
nowhere = (record { 0 = 0 }, [])

module _ (c : Contents) (range : Range) (is : IsRange c range) where
  pub alias-name : (r : RelNo) → r.0 < length range → IsName (relation_at range r).1
  alias-name r lt = is.names r.0 nowhere lt

  pub relation-table : (r : RelNo) → r.0 < length range → IsTable c (relation_at range r).0
  relation-table r lt = is.tables r.0 nowhere lt

  pub alias-same : (r s : RelNo) → r.0 < length range → s.0 < length range → (relation_at range r).1 ≡ (relation_at range s).1 → r ≡ s
  alias-same r s lr ls e =
      let long : length (aliases range) ≡ length range = length-map range (λ (x : TableNo × List ℕ). x.1) in
      let same : r.0 ≡ s.0 =
      distinct-at (aliases range) r.0 s.0 is.distinct (omega (arith, long, lr)) (omega (arith, long, ls))
      (get_or-map (λ (x : TableNo × List ℕ). x.1) range r.0 nowhere [] lr ∙ e ∙ sym (get_or-map (λ (x : TableNo × List ℕ). x.1) range s.0 nowhere [] ls)) in
      ap (λ (n : ℕ). let x : RelNo = record { 0 = n } in x) same

-- the aliases of a set are names
pub aliases-names : (n : ℕ) (set : Set) (range : Range) → All (λ r. IsName r.1) range → Names (aliases_in n set range)
aliases-names n set [] h = tt
aliases-names n set (r ∷ rs) h =
    by (set n) (All-head (λ (x : TableNo × List ℕ). IsName x.1) r rs h) (aliases-names (n + 1) set rs (All-tail (λ (x : TableNo × List ℕ). IsName x.1) r rs h))
  where
    by : (b : Bool) → IsName r.1 → Names (aliases_in (n + 1) set rs) → Names (with_alias b r.1 (aliases_in (n + 1) set rs))
    by true k later = (k, later)
    by false k later = later

in-aliases : (n : ℕ) (set : Set) (range : Range) (a : List ℕ) → IsIn a (aliases_in n set range) → IsIn a (aliases range)
in-aliases n set [] a h = absurd h
in-aliases n set (r ∷ rs) a h = by (set n) (in-aliases (n + 1) set rs a) h
  where
    by : (b : Bool) → (IsIn a (aliases_in (n + 1) set rs) → IsIn a (aliases rs)) → IsIn a (with_alias b r.1 (aliases_in (n + 1) set rs)) → IsIn a (aliases (r ∷ rs))
    by true f (inl same) = inl same
    by true f (inr later) = inr (f later)
    by false f later = inr (f later)

distinct-tail : (a : List ℕ) (rest : List (List ℕ)) → AreDistinct (a ∷ rest) → AreDistinct rest
distinct-tail a rest h = λ i j d lt lj. h (suc i) (suc j) d (omega (arith, lt)) (omega (arith, lj))

distinct-head : (a : List ℕ) (rest : List (List ℕ)) → AreDistinct (a ∷ rest) → IsIn a rest → ⊥
distinct-head a rest h i =
    let at = contains_from_in rest a i in
    let lt : at.0 < length rest = at.1 in
    h 0 (suc at.0) a (omega arith) (omega (arith, lt)) (sym at.2)

-- sets with the same aliases have the same relations of the list
pub aliases-same : (n : ℕ) (s t : Set) (range : Range) → AreDistinct (aliases range) → aliases_in n s range ≡ aliases_in n t range → (k : ℕ) → n ≤ k → k < n + length range → s k ≡ t k
aliases-same n s t [] d e k le lt = absurd (omega (arith, le, lt))
aliases-same n s t (r ∷ rs) d e k le lt =
    by (s n) (t n) refl refl (aliases-same (n + 1) s t rs (distinct-tail r.1 (aliases rs) d)) e (nat_eq k n) refl
  where
    here : s n ≡ t n → ((m : ℕ) → n + 1 ≤ m → m < n + 1 + length rs → s m ≡ t m) → (b : Bool) → nat_eq k n ≡ b → s k ≡ t k
    here same later true p = let is : k ≡ n = grind (arith, nat_tests, p) in ap s is ∙ same ∙ ap t (sym is)
    here same later false p = let no : k ≢ n = grind (arith, nat_tests, p) in later k (omega (arith, no, le)) (omega (arith, lt))

    by : (x y : Bool) → s n ≡ x → t n ≡ y → (aliases_in (n + 1) s rs ≡ aliases_in (n + 1) t rs → (m : ℕ) → n + 1 ≤ m → m < n + 1 + length rs → s m ≡ t m) →
        with_alias x r.1 (aliases_in (n + 1) s rs) ≡ with_alias y r.1 (aliases_in (n + 1) t rs) → (b : Bool) → nat_eq k n ≡ b → s k ≡ t k
    by true true p q f same b z = here (p ∙ sym q) (f (ap (λ (l : List (List ℕ)). drop 1 l) same)) b z
    by false false p q f same b z = here (p ∙ sym q) (f same) b z
    by true false p q f same b z =
        let P : List (List ℕ) → Type 0 = λ l. IsIn r.1 l in
        absurd (distinct-head r.1 (aliases rs) d (in-aliases (n + 1) t rs r.1 (subst P same (inl refl))))
    by false true p q f same b z =
        let P : List (List ℕ) → Type 0 = λ l. IsIn r.1 l in
        absurd (distinct-head r.1 (aliases rs) d (in-aliases (n + 1) s rs r.1 (subst P (sym same) (inl refl))))
