-- Copies of entries and of lists, item by item.
use Rattle.std.proofs.Common.{◌≡◌, ◌<◌, ◌+◌, ◌++◌, ◌∷◌, [], ◌∙◌, ℕ, List, Vec, Global, Some, length, map, take, get_or, slice_get, Contains, refl, sym, ap, ap₂, subst, arith}
use Rattle.std.specs.List.{AllZip, IsDistinct, take-map}
use Rattle.std.specs.Map.{keys_of}
use Rattle.std.specs.Str.{bytes_eq}
use Rattle.std.proofs.lemmas.List.{get_or-map, length-map, take_more}
use Rattle.std.proofs.lemmas.List.Elements.{AllZip-push}
use Rattle.std.proofs.lemmas.Map.Keys.{apart_from_distinct}
use Rattle.std.proofs.lemmas.Option.{get_or_from_slice_get, slice_get_within}
use Rattle.std.proofs.lemmas.Slice.Eq.{bytes_eq-Decides}
use Rattle.indexmap.specs.IndexMap.{insert_entry}
use Rattle.pg_base.specs.Names.{AreDistinct}
use Rattle.catalog.specs.Contents.{IsLawful, NamedIndex}
use Rattle.catalog.specs.work.Entries.{AreListed, IsSameTable, contents_of, index_of, named_index, table_def}
use Rattle.catalog.specs.work.Keys.{key_names}
use Rattle.catalog.specs.declared.index_def.IndexDef.{IndexDef}
use Rattle.catalog.specs.declared.table.Table.{Table}
use Rattle.catalog.proofs.EntryLemmas.{entries-added}
use Rattle.catalog.proofs.NameLaws.{fresh}

-- the second entries have the names of the first, and values that stand for the same
abbrev pub AreCopies : {V : Type 0} → (V → V → Type 0) → List (Vec ℕ Global × V) → List (Vec ℕ Global × V) → Type 0
AreCopies same es fs = AllZip (λ p q. (q.0.items ≡ p.0.items) × same p.1 q.1) es fs

-- different keys have different names
pub different-names : (ks : List (Vec ℕ Global)) → IsDistinct (λ a b. bytes_eq a.items b.items) ks → AreDistinct (key_names ks)
different-names [] h i j d lt long same = absurd (omega (arith, long))
different-names (k ∷ ks) h i j d lt long same =
    let all : List (Vec ℕ Global) = k ∷ ks in
    let len = length-map all (λ (x : Vec ℕ Global). x.items) in
    let within : j < length all = omega (arith, len, long) in
    let at-i = get_or-map (λ (x : Vec ℕ Global). x.items) all i k d (omega (arith, lt, within)) in
    let at-j = get_or-map (λ (x : Vec ℕ Global). x.items) all j k d within in
    let told = (bytes_eq-Decides (get_or all i k).items (get_or all j k).items).1 (sym at-i ∙ same ∙ at-j) in
    cc (sym told ∙ apart_from_distinct (λ (a b : Vec ℕ Global). bytes_eq a.items b.items) all i j k h lt within)

-- copies have the same names
names-copied : {V : Type 0} (same : V → V → Type 0) (es fs : List (Vec ℕ Global × V)) → AreCopies same es fs → key_names (keys_of fs) ≡ key_names (keys_of es)
names-copied same [] [] h = refl
names-copied same [] (f ∷ fs) h = absurd h
names-copied same (e ∷ es) [] h = absurd h
names-copied same (e ∷ es) (f ∷ fs) h = ap₂ (λ a more. a ∷ more) h.0.0 (names-copied same es fs h.1)

names-taken : {V : Type 0} (n : ℕ) (es : List (Vec ℕ Global × V)) → key_names (keys_of (take n es)) ≡ take n (key_names (keys_of es))
names-taken {V} n es = sym (take-map (λ (k : Vec ℕ Global). k.items) n (keys_of es) ∙ ap key_names (take-map (λ (e : Vec ℕ Global × V). e.0) n es))

-- one more item
pub copied-item : {X : Type 0} (R : X → X → Type 0) (xs ys more : List X) (n : ℕ) (x y : X) → n < length xs → x ≡ get_or xs n x → R x y → more ≡ ys ++ y ∷ [] → AllZip R (take n xs) ys → AllZip R (take (n + 1) xs) more
copied-item R xs ys more n x y lt at same grown done =
    subst (AllZip R (take (n + 1) xs)) (sym grown)
    (subst (λ l. AllZip R l (ys ++ y ∷ [])) (sym (take_more xs n x lt ∙ ap (λ z. take n xs ++ z ∷ []) (sym at))) (AllZip-push R (take n xs) ys x y done same))

-- one more entry
pub copied-entry : {V : Type 0} (same : V → V → Type 0) (es fs more : List (Vec ℕ Global × V)) (n : ℕ) (e : Vec ℕ Global × V) (k : Vec ℕ Global) (v : V) → IsDistinct (λ a b. bytes_eq a.items b.items) (keys_of es) →
    slice_get es n ≡ Some e → k.items ≡ e.0.items → same e.1 v → more ≡ insert_entry (λ a b. bytes_eq a.items b.items) fs k v → AreCopies same (take n es) fs → AreCopies same (take (n + 1) es) more
copied-entry {V} same es fs more n e k v distinct at named valued added done =
    let lt = slice_get_within es n e at in
    let here = get_or_from_slice_get es n e e at in
    let names = names-copied same (take n es) fs done ∙ names-taken n es in
    let named-at : get_or (key_names (keys_of es)) n k.items ≡ k.items = name-at n es lt here in
    let long = length-map (keys_of es) (λ (x : Vec ℕ Global). x.items) in
    let keys = length-map es (λ (x : Vec ℕ Global × V). x.0) in
    let new : Contains (key_names (keys_of fs)) k.items → ⊥ = λ h. fresh (key_names (keys_of es)) n k.items (omega (arith, lt, long, keys)) named-at (different-names (keys_of es) distinct) (subst (λ l. Contains l k.items) names h) in
    let grown = added ∙ entries-added fs k v new in
    copied-item (λ p q. (q.0.items ≡ p.0.items) × same p.1 q.1) es fs more n e (k, v) lt (sym here) (named, valued) grown done
  where
    name-at : (n : ℕ) (es : List (Vec ℕ Global × V)) → n < length es → get_or es n e ≡ e → get_or (key_names (keys_of es)) n k.items ≡ k.items
    name-at n es lt here =
        let keys = length-map es (λ (x : Vec ℕ Global × V). x.0) in
        get_or-map (λ (x : Vec ℕ Global). x.items) (keys_of es) n e.0 k.items (omega (arith, lt, keys))
        ∙ ap (λ (x : Vec ℕ Global). x.items) (get_or-map (λ (x : Vec ℕ Global × V). x.0) es n e e.0 lt ∙ ap (λ (x : Vec ℕ Global × V). x.0) here) ∙ sym named

-- the definitions of copied tables, and of copied indexes
tables-copied : (es fs : List (Vec ℕ Global × Table)) → AreCopies IsSameTable es fs → map table_def fs ≡ map table_def es
tables-copied [] [] h = refl
tables-copied [] (f ∷ fs) h = absurd h
tables-copied (e ∷ es) [] h = absurd h
tables-copied (e ∷ es) (f ∷ fs) h =
    let s = h.0.1 in
    let rest = tables-copied es fs h.1 in
    λ i. record { name = h.0.0 i; names = s.names i; columns = s.columns i; loaded = s.loaded i; sizes = s.sizes i; stats = s.stats i } ∷ rest i

indexes-copied : (es fs : List (Vec ℕ Global × IndexDef)) → AreCopies (λ a b. index_of b ≡ index_of a) es fs → map named_index fs ≡ map named_index es
indexes-copied [] [] h = refl
indexes-copied [] (f ∷ fs) h = absurd h
indexes-copied (e ∷ es) [] h = absurd h
indexes-copied (e ∷ es) (f ∷ fs) h = let rest = indexes-copied es fs h.1 in λ i. record { name = h.0.0 i; index = h.0.1 i } ∷ rest i

listed-copied : (xs : List NamedIndex) (n : ℕ) (es fs : List (Vec ℕ Global × Table)) → AreCopies IsSameTable es fs → AreListed xs n es → AreListed xs n fs
listed-copied xs n [] [] h l = tt
listed-copied xs n [] (f ∷ fs) h l = absurd h
listed-copied xs n (e ∷ es) [] h l = absurd h
listed-copied xs n (e ∷ es) (f ∷ fs) h l = (h.0.1.indexes ∙ l.0, listed-copied xs (n + 1) es fs h.1 l.1)

module _ (es fs : List (Vec ℕ Global × Table)) (is js : List (Vec ℕ Global × IndexDef)) (tables : AreCopies IsSameTable es fs) (indexes : AreCopies (λ a b. index_of b ≡ index_of a) is js) where
  -- copied entries stand for the same contents
  pub contents-copied : contents_of fs js ≡ contents_of es is
  contents-copied = let d = tables-copied es fs tables in let x = indexes-copied is js indexes in λ i. record { tables = d i; indexes = x i }

  -- copied entries are lawful and listed as those that are copied
  pub lawful-copied : IsLawful (contents_of es is) × AreListed (map named_index is) 0 es → IsLawful (contents_of fs js) × AreListed (map named_index js) 0 fs
  lawful-copied h = (
    subst IsLawful (sym contents-copied) h.0,
    subst (λ xs. AreListed xs 0 fs) (sym (indexes-copied is js indexes)) (listed-copied (map named_index is) 0 es fs tables h.1),
  )

-- a list of copies is seen as the list is
pub seen-copied : {X Y : Type 0} (f : X → Y) (xs ys : List X) → AllZip (λ a b. f b ≡ f a) xs ys → map f ys ≡ map f xs
seen-copied f [] [] h = refl
seen-copied f [] (y ∷ ys) h = absurd h
seen-copied f (x ∷ xs) [] h = absurd h
seen-copied f (x ∷ xs) (y ∷ ys) h = ap₂ (λ a more. a ∷ more) h.0 (seen-copied f xs ys h.1)
