-- The entries of maps by name: look-ups, a new entry, another value, and the lists of numbers that tables keep.
use Rattle.std.proofs.Common.{◌≡◌, ◌≢◌, ◌<◌, ◌+◌, ◌++◌, ◌∷◌, [], ◌∙◌, ℕ, Bool, true, false, cond, List, Vec, Global, Option, Some, None, MatchOption, length, map, zero, suc, get_or, position, slice_get, set, Contains, refl, sym, ap, arith}
use Rattle.std.specs.List.{position_or_len}
use Rattle.std.specs.Map.{keys_of, values_of}
use Rattle.std.specs.Option.{option_map}
use Rattle.std.specs.Str.{bytes_eq}
use Rattle.std.proofs.lemmas.Bool.{ltb-false}
use Rattle.std.proofs.lemmas.List.{get_or-map, length-map}
use Rattle.std.proofs.lemmas.List.Elements.{Contains-append_right}
use Rattle.std.proofs.lemmas.List.Quantifiers.{position-Some}
use Rattle.std.proofs.lemmas.List.Sums.{fails_before_first}
use Rattle.std.proofs.lemmas.Option.{MatchOption-at_none, MatchOption-at_some, get_or_from_slice_get, slice_get_within}
use Rattle.std.proofs.lemmas.Slice.Eq.{bytes_eq-Decides}
use Rattle.indexmap.specs.IndexMap.{insert_entry, set_value_at}
use Rattle.pg_base.specs.declared.numbers.TableNo.{TableNo}
use Rattle.catalog.specs.Contents.{NamedIndex, TableDef, no_table, numbers_from}
use Rattle.catalog.specs.work.Entries.{AreListed, statistics, table_def}
use Rattle.catalog.specs.work.Keys.{key_names}
use Rattle.catalog.specs.declared.table.Table.{Table}

module _ (name : List ℕ) (names : List (List ℕ)) where
  not_passed : (b : Bool) (i : ℕ) → cond b (Some i) None ≡ None → b ≡ false
  not_passed true i e = cc e
  not_passed false i e = refl

  found_by : (r : Option ℕ) → position (bytes_eq name) names ≡ r → MatchOption r (Contains names name → ⊥) (λ n. (n < length names) × (get_or names n [] ≡ name))
  found_by None e =
      λ h.
      let past = ltb-false _ _ (not_passed _ _ e) in
      let before : h.0 < position_or_len (bytes_eq name) names = omega (arith, past, h.1) in
      let fails = fails_before_first (bytes_eq name) names h.0 name before in
      let same = (bytes_eq-Decides name name).1 refl in
      cc (sym same ∙ ap (bytes_eq name) (sym h.2) ∙ fails)
  found_by (Some n) e =
      let s = position-Some (bytes_eq name) names n [] e in
      (s.0, sym ((bytes_eq-Decides name (get_or names n [])).0 s.1))

  -- a name without a place is none of the names
  pub not_found : position (bytes_eq name) names ≡ None → Contains names name → ⊥
  not_found e = MatchOption-at_none _ _ e (found_by _ refl)

  -- a name with a place is the name there
  pub found_at : (n : ℕ) → position (bytes_eq name) names ≡ Some n → (n < length names) × (get_or names n [] ≡ name)
  found_at n e = MatchOption-at_some _ _ n e (found_by _ refl)

-- a name with a place among those of some definitions is that of the definition there
pub named-at : {X : Type 0} (of : X → List ℕ) (xs : List X) (name : List ℕ) (n : ℕ) (d : X) → position (bytes_eq name) (map of xs) ≡ Some n → (n < length xs) × (of (get_or xs n d) ≡ name)
named-at of xs name n d e =
    let f = found_at name (map of xs) n e in
    let len = length-map xs of in
    let lt : n < length xs = omega (arith, len, f.0) in
    (lt, sym (get_or-map of xs n d [] lt) ∙ f.1)

-- the name of a definition at a place is among theirs
pub name-among : {X : Type 0} (of : X → List ℕ) (xs : List X) (n : ℕ) (d : X) (name : List ℕ) → n < length xs → of (get_or xs n d) ≡ name → Contains (map of xs) name
name-among of xs n d name lt same =
    let len = length-map xs of in
    (n, omega (arith, len, lt), get_or-map of xs n d name lt ∙ same)

module _ {V X : Type 0} (def : Vec ℕ Global × V → X) where
  -- the definition of an entry
  pub def-at : (es : List (Vec ℕ Global × V)) (i : ℕ) (e : Vec ℕ Global × V) (d : X) → slice_get es i ≡ Some e → def e ≡ get_or (map def es) i d
  def-at es i e d at = sym (get_or-map def es i e d (slice_get_within es i e at) ∙ ap def (get_or_from_slice_get es i e e at))

  -- the names of the definitions are the keys of the map
  pub names-of : (of : X → List ℕ) → ((e : Vec ℕ Global × V) → of (def e) ≡ e.0.items) → (es : List (Vec ℕ Global × V)) → key_names (keys_of es) ≡ map of (map def es)
  names-of of same [] = refl
  names-of of same (e ∷ es) = ap (λ x. x ∷ key_names (keys_of es)) (sym (same e)) ∙ ap (λ l. of (def e) ∷ l) (names-of of same es)

-- a new key goes last
pub entries-added : {V : Type 0} (es : List (Vec ℕ Global × V)) (k : Vec ℕ Global) (v : V) → (Contains (key_names (keys_of es)) k.items → ⊥) →
    insert_entry (λ a b. bytes_eq a.items b.items) es k v ≡ es ++ (k, v) ∷ []
entries-added [] k v new = refl
entries-added (e ∷ es) k v new =
    ap (λ b. cond b ((e.0, v) ∷ es) (e ∷ insert_entry (λ a b. bytes_eq a.items b.items) es k v)) (by _ refl)
    ∙ ap (λ l. e ∷ l) (entries-added es k v (λ h. new (Contains-append_right (e.0.items ∷ []) (key_names (keys_of es)) k.items h)))
  where
    by : (b : Bool) → bytes_eq k.items e.0.items ≡ b → b ≡ false
    by true same = absurd (new (0, omega arith, sym ((bytes_eq-Decides k.items e.0.items).0 same)))
    by false same = refl

-- what is kept under a name
abbrev pub keyed : List ℕ → Table → TableDef
keyed name v = record { name = name; names = v.names; columns = v.columns; loaded = v.loaded; sizes = v.sizes; stats = map (option_map statistics) v.stats.items }

-- the definition of a value at a place
pub def-of_value : (es : List (Vec ℕ Global × Table)) (i : ℕ) (old : Table) → slice_get (values_of es) i ≡ Some old →
    get_or (map table_def es) i no_table ≡ keyed (get_or (map table_def es) i no_table).name old
def-of_value [] i old at = cc at
def-of_value (e ∷ es) zero old at = ap (keyed e.0.items) (get_or_from_slice_get (values_of (e ∷ es)) 0 old old at)
def-of_value (e ∷ es) (suc i) old at = def-of_value es i old at

-- another value at a place
pub defs-set : (es : List (Vec ℕ Global × Table)) (i : ℕ) (new : Table) →
    map table_def (set_value_at es i new) ≡ set (map table_def es) i (keyed (get_or (map table_def es) i no_table).name new)
defs-set [] i new = refl
defs-set (e ∷ es) zero new = refl
defs-set (e ∷ es) (suc i) new = ap (λ l. table_def e ∷ l) (defs-set es i new)

-- the list of the entry at a place
pub listed-at : (xs : List NamedIndex) (n : ℕ) (es : List (Vec ℕ Global × Table)) (i : ℕ) (e : Vec ℕ Global × Table) → AreListed xs n es → slice_get es i ≡ Some e →
    e.1.indexes.items ≡ numbers_from 0 xs (record { 0 = n + i })
listed-at xs n [] i e h at = cc at
listed-at xs n (d ∷ es) zero e h at =
    let here : n ≡ n + 0 = omega arith in
    ap (λ (x : Vec ℕ Global × Table). x.1.indexes.items) (sym (get_or_from_slice_get (d ∷ es) 0 e e at)) ∙ h.0 ∙ ap (λ k. numbers_from 0 xs (record { 0 = k })) here
listed-at xs n (d ∷ es) (suc i) e h at =
    let here : (n + 1) + i ≡ n + suc i = omega arith in
    listed-at xs (n + 1) es i e h.1 at ∙ ap (λ k. numbers_from 0 xs (record { 0 = k })) here

-- the list of the value at a place
pub listed-value : (xs : List NamedIndex) (n : ℕ) (es : List (Vec ℕ Global × Table)) (i : ℕ) (old : Table) → AreListed xs n es → slice_get (values_of es) i ≡ Some old →
    old.indexes.items ≡ numbers_from 0 xs (record { 0 = n + i })
listed-value xs n [] i old h at = cc at
listed-value xs n (d ∷ es) zero old h at =
    let here : n ≡ n + 0 = omega arith in
    ap (λ (x : Table). x.indexes.items) (sym (get_or_from_slice_get (values_of (d ∷ es)) 0 old old at)) ∙ h.0 ∙ ap (λ k. numbers_from 0 xs (record { 0 = k })) here
listed-value xs n (d ∷ es) (suc i) old h at =
    let here : (n + 1) + i ≡ n + suc i = omega arith in
    listed-value xs (n + 1) es i old h.1 at ∙ ap (λ k. numbers_from 0 xs (record { 0 = k })) here

-- a value whose list is right for other indexes, where the other tables' numbers stay
pub listed-set : (xs ys : List NamedIndex) (n : ℕ) (es : List (Vec ℕ Global × Table)) (i : ℕ) (new : Table) → AreListed xs n es →
    ((t : TableNo) → t.0 ≢ n + i → numbers_from 0 xs t ≡ numbers_from 0 ys t) → new.indexes.items ≡ numbers_from 0 ys (record { 0 = n + i }) → AreListed ys n (set_value_at es i new)
listed-set xs ys n [] i new h others here = tt
listed-set xs ys n (e ∷ es) zero new h others here =
    let at : n + 0 ≡ n = omega arith in
    (here ∙ ap (λ k. numbers_from 0 ys (record { 0 = k })) at, rest (n + 1) es h.1 (omega arith))
  where
    rest : (m : ℕ) (ds : List (Vec ℕ Global × Table)) → AreListed xs m ds → n < m → AreListed ys m ds
    rest m [] k lt = tt
    rest m (d ∷ ds) k lt = (k.0 ∙ others (record { 0 = m }) (λ same. omega (arith, same, lt)), rest (m + 1) ds k.1 (omega (arith, lt)))
listed-set xs ys n (e ∷ es) (suc i) new h others here =
    let at : n + suc i ≡ (n + 1) + i = omega arith in (
      h.0 ∙ others (record { 0 = n }) (λ same. omega (arith, same)),
      listed-set xs ys (n + 1) es i new h.1 (λ t ne. others t (λ same. ne (same ∙ at))) (here ∙ ap (λ k. numbers_from 0 ys (record { 0 = k })) at),
    )

-- one more entry without indexes
pub listed-added : (xs : List NamedIndex) (n : ℕ) (es : List (Vec ℕ Global × Table)) (k : Vec ℕ Global) (v : Table) → AreListed xs n es → v.indexes.items ≡ [] →
    numbers_from 0 xs (record { 0 = n + length es }) ≡ [] → AreListed xs n (es ++ (k, v) ∷ [])
listed-added xs n [] k v h none past = let at : n + 0 ≡ n = omega arith in (none ∙ sym past ∙ ap (λ m. numbers_from 0 xs (record { 0 = m })) at, tt)
listed-added xs n (e ∷ es) k v h none past =
    let at : (n + 1) + length es ≡ n + length (e ∷ es) = omega arith in
    (h.0, listed-added xs (n + 1) es k v h.1 none (ap (λ m. numbers_from 0 xs (record { 0 = m })) at ∙ past))

-- one entry less
pub listed-cut : (xs : List NamedIndex) (n : ℕ) (es fs : List (Vec ℕ Global × Table)) → AreListed xs n (es ++ fs) → AreListed xs n es
listed-cut xs n [] fs h = tt
listed-cut xs n (e ∷ es) fs h = (h.0, listed-cut xs (n + 1) es fs h.1)
