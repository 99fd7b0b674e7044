-- Lists of different names, and the keys of a map as names.
use Rattle.std.proofs.Common.{◌≡◌, ◌≢◌, ◌↔◌, IsTrue, ◌<◌, ◌+◌, ◌++◌, ◌∷◌, [], ◌∙◌, ◌||◌, ℕ, Bool, true, false, not, cond, nat_lt, List, Vec, Global, Some, None, length, take, get_or, position, AllPairs, Contains, refl, sym, ap, subst, arith}
use Rattle.std.specs.List.{list_any, position_or_len}
use Rattle.std.specs.Str.{bytes_eq}
use Rattle.std.proofs.lemmas.List.{get_or-take, get_or_default, length-map, length-take, map-append, take_more}
use Rattle.std.proofs.lemmas.List.Quantifiers.{all_pairs_push}
use Rattle.std.proofs.lemmas.Slice.Eq.{bytes_eq-Decides}
use Rattle.indexmap.specs.IndexSet.{insert_key}
use Rattle.indexmap.proofs.CallerLemmas.{Contains-list_any}
use Rattle.pg_base.specs.Names.{AreDistinct}
use Rattle.catalog.specs.work.Keys.{key_names}

-- a name that is not among different ones goes last
pub distinct-push : {X : Type 0} (xs : List X) (x : X) → AllPairs (λ a b. a ≢ b) xs → (Contains xs x → ⊥) → AllPairs (λ a b. a ≢ b) (xs ++ x ∷ [])
distinct-push xs x h new = all_pairs_push (λ a b. a ≢ b) xs x h (λ k d lt e. new (k, lt, get_or_default xs k x d lt ∙ e))

-- one more of the names from the front
pub distinct-more : {X : Type 0} (xs : List X) (n : ℕ) (x : X) → n < length xs → get_or xs n x ≡ x → AllPairs (λ a b. a ≢ b) (take n xs) → (Contains (take n xs) x → ⊥) → AllPairs (λ a b. a ≢ b) (take (n + 1) xs)
distinct-more xs n x lt at h new = subst (AllPairs (λ a b. a ≢ b)) (sym (take_more xs n x lt ∙ ap (λ y. take n xs ++ y ∷ []) at)) (distinct-push (take n xs) x h new)

-- none of different names is among those before it
pub fresh : (xs : List (List ℕ)) (n : ℕ) (x : List ℕ) → n < length xs → get_or xs n x ≡ x → AreDistinct xs → Contains (take n xs) x → ⊥
fresh xs n x lt at h among =
    let len = length-take n xs in
    let before : among.0 < n = omega (arith, len, among.1) in
    h among.0 n x before lt (sym (get_or-take n xs among.0 x before) ∙ among.2 ∙ sym at)

-- whether a key has a name is whether the name is among theirs
list_any-key_names : (test : List ℕ → Bool) (ks : List (Vec ℕ Global)) → list_any (λ k. test k.items) ks ≡ list_any test (key_names ks)
list_any-key_names test [] = refl
list_any-key_names test (k ∷ ks) = ap (λ b. test k.items || b) (list_any-key_names test ks)

absent : (name : List ℕ) (names : List (List ℕ)) → (Contains names name → ⊥) → (b : Bool) → list_any (bytes_eq name) names ≡ b → b ≡ false
absent name names new true e = absurd (new (Contains-list_any bytes_eq (λ x y. (bytes_eq-Decides x y).0) names name e))
absent name names new false e = refl

-- a new key goes last
pub key_names-added : (ks : List (Vec ℕ Global)) (k : Vec ℕ Global) → (Contains (key_names ks) k.items → ⊥) → key_names (insert_key (λ a b. bytes_eq a.items b.items) ks k) ≡ key_names (ks ++ k ∷ [])
key_names-added ks k new =
    let none = list_any-key_names (bytes_eq k.items) ks ∙ absent k.items (key_names ks) new _ refl in
    ap (λ b. key_names (cond b ks (ks ++ k ∷ []))) none

-- the place of a key is that of its name
place-key_names : (test : List ℕ → Bool) (ks : List (Vec ℕ Global)) → position_or_len (λ k. test k.items) ks ≡ position_or_len test (key_names ks)
place-key_names test [] = refl
place-key_names test (k ∷ ks) = ap (λ n. cond (not (test k.items)) (1 + n) 0) (place-key_names test ks)

length-key_names : (ks : List (Vec ℕ Global)) → length ks ≡ length (key_names ks)
length-key_names ks = sym (length-map ks (λ k. k.items))

pub position-key_names : (name : List ℕ) (ks : List (Vec ℕ Global)) → position (λ k. bytes_eq name k.items) ks ≡ position (bytes_eq name) (key_names ks)
position-key_names name ks =
    ap (λ n. cond (nat_lt n (length ks)) (Some n) None) (place-key_names (bytes_eq name) ks)
    ∙ ap (λ m. cond (nat_lt (position_or_len (bytes_eq name) (key_names ks)) m) (Some (position_or_len (bytes_eq name) (key_names ks))) None) (length-key_names ks)

-- a test that decides a fact, and that fails, rules the fact out
pub not_among : (b : Bool) (P : Type 0) → (IsTrue b ↔ P) → b ≡ false → P → ⊥
not_among true P decides e h = cc e
not_among false P decides e h = cc (decides.1 h)

-- one more of different names, as a key
pub copied-more : (names : List (List ℕ)) (n : ℕ) (x : List ℕ) (ks : List (Vec ℕ Global)) (k : Vec ℕ Global) → n < length names → get_or names n x ≡ x → AreDistinct names →
    k.items ≡ x → key_names ks ≡ take n names → key_names (insert_key (λ a b. bytes_eq a.items b.items) ks k) ≡ take (n + 1) names
copied-more names n x ks k lt at distinct same done =
    key_names-added ks k (λ h. fresh names n x lt at distinct (rw (done, same) at h))
    ∙ map-append (λ (y : Vec ℕ Global). y.items) ks (k ∷ [])
    ∙ ap (λ l. l ++ k.items ∷ []) done
    ∙ ap (λ y. take n names ++ y ∷ []) (same ∙ sym at)
    ∙ sym (take_more names n x lt)
