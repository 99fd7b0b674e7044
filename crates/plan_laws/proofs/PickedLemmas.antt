-- Elements picked from one list by two tests: what the one picks and the other allows, the other picks too.
use Rattle.std.proofs.Common.{◌≡◌, ◌≤◌, ◌+◌, ℕ, Bool, true, false, cond, ◌⊎◌, List, [], ◌∷◌, ◌++◌, length, filter, Contains, inl, inr, refl, sym, ap, ◌∙◌, subst, arith, true≢false}
use Rattle.std.specs.List.{AllByRecursion, items_where_true}
use Rattle.std.proofs.lemmas.List.Elements.{Contains-append_right}
use Rattle.plan_tree.specs.Bitmaps.{Element, ArePicked, none_left, picked, passed}
use Rattle.plan_tree.proofs.CostableLemmas.{In}
use Rattle.plan_laws.proofs.DecisionLemmas.{IsDecided, or-not}

module _ {X : Type 0} where
  pick-next : (P : X → Type 0) (x : X) (xs : List X) → P x ⊎ (¬ P x) → (ys : List X) × ArePicked P xs ys → (zs : List X) × ArePicked P (x ∷ xs) zs
  pick-next P x xs (inl h) r = (x ∷ r.0, picked x xs r.0 h r.1)
  pick-next P x xs (inr h) r = (r.0, passed x xs r.0 h r.1)

  -- what a test that is decided picks
  pub pick-all : (P : X → Type 0) → ((x : X) → IsDecided (P x)) → (xs : List X) → (ys : List X) × ArePicked P xs ys
  pick-all P d [] = ([], none_left)
  pick-all P d (x ∷ xs) = pick-next P x xs (or-not (d x)) (pick-all P d xs)

  -- a test among those that another one lets through
  abbrev pub Among : (X → Bool) → (X → Type 0) → X → Type 0
  Among K P x = (K x ≡ true) × P x

  filter-by : (K : X → Bool) (P : X → Type 0) (x : X) (xs ys : List X) → ((zs : List X) → ArePicked P (filter K xs) zs → ArePicked (Among K P) xs zs) → (b : Bool) → K x ≡ b → ArePicked P (cond b (x ∷ filter K xs) (filter K xs)) ys → ArePicked (Among K P) (x ∷ xs) ys
  filter-by K P x xs _ rec true e (picked _ _ ys is rest) = picked x xs ys (e, is) (rec ys rest)
  filter-by K P x xs _ rec true e (passed _ _ ys is rest) = passed x xs ys (λ h. is h.1) (rec ys rest)
  filter-by K P x xs ys rec false e rest = passed x xs ys (λ h. true≢false (sym h.0 ∙ e)) (rec ys rest)

  -- what is picked from those that it lets through
  pub from-filter : (K : X → Bool) (P : X → Type 0) (xs ys : List X) → ArePicked P (filter K xs) ys → ArePicked (Among K P) xs ys
  from-filter K P [] _ none_left = none_left
  from-filter K P (x ∷ xs) ys h = filter-by K P x xs ys (λ zs k. from-filter K P xs zs k) (K x) refl h

  -- a part of what one picks, each of which the other allows, is a part of what the other picks
  pub same-part : (P Q : X → Type 0) (mask : List Bool) (xs ys zs : List X) → ArePicked P xs ys → ArePicked Q xs zs → AllByRecursion Q (items_where_true mask ys) → (m : List Bool) × (items_where_true m zs ≡ items_where_true mask ys)
  same-part P Q [] xs ys zs h k all = ([], refl)
  same-part P Q (b ∷ bs) _ _ _ none_left none_left all = ([], refl)
  same-part P Q (true ∷ bs) _ _ _ (picked x xs ys is rest) (picked _ _ zs also more) all =
      let r = same-part P Q bs xs ys zs rest more all.1 in
      (true ∷ r.0, ap (λ (l : List X). x ∷ l) r.1)
  same-part P Q (false ∷ bs) _ _ _ (picked x xs ys is rest) (picked _ _ zs also more) all =
      let r = same-part P Q bs xs ys zs rest more all in
      (false ∷ r.0, r.1)
  same-part P Q (true ∷ bs) _ _ _ (picked x xs ys is rest) (passed _ _ zs none more) all = absurd (none all.0)
  same-part P Q (false ∷ bs) _ _ _ (picked x xs ys is rest) (passed _ _ zs none more) all = same-part P Q bs xs ys zs rest more all
  same-part P Q (b ∷ bs) _ _ _ (passed x xs ys none rest) (picked _ _ zs also more) all =
      let r = same-part P Q (b ∷ bs) xs ys zs rest more all in
      (false ∷ r.0, r.1)
  same-part P Q (b ∷ bs) _ _ _ (passed x xs ys none rest) (passed _ _ zs neither more) all = same-part P Q (b ∷ bs) xs ys zs rest more all

  -- how many are picked from two lists, one behind the other
  pub few-picked : (P : X → Type 0) (n : ℕ) (xs ys zs : List X) → ((us : List X) → ArePicked P ys us → length us ≤ n) → ArePicked P (xs ++ ys) zs → length zs ≤ length xs + n
  few-picked P n [] ys zs most h = let few = most zs h in omega (arith, few)
  few-picked P n (x ∷ xs) ys _ most (picked _ _ zs is rest) = let few = few-picked P n xs ys zs most rest in omega (arith, few)
  few-picked P n (x ∷ xs) ys zs most (passed _ _ _ is rest) = let few = few-picked P n xs ys zs most rest in omega (arith, few)

-- an element that one picks and the other allows is picked by the other
pub in-same : (P Q : Element → Type 0) (e : Element) (xs ys zs : List Element) → ArePicked P xs ys → ArePicked Q xs zs → Q e → In e ys → In e zs
in-same P Q e _ _ _ none_left none_left q h = h
in-same P Q e _ _ _ (picked x xs ys is rest) (picked _ _ zs also more) q (inl same) = inl same
in-same P Q e _ _ _ (picked x xs ys is rest) (picked _ _ zs also more) q (inr h) = inr (in-same P Q e xs ys zs rest more q h)
in-same P Q e _ _ _ (picked x xs ys is rest) (passed _ _ zs none more) q (inl same) = absurd (none (subst Q (sym same) q))
in-same P Q e _ _ _ (picked x xs ys is rest) (passed _ _ zs none more) q (inr h) = in-same P Q e xs ys zs rest more q h
in-same P Q e _ _ _ (passed x xs ys none rest) (picked _ _ zs also more) q h = inr (in-same P Q e xs ys zs rest more q h)
in-same P Q e _ _ _ (passed x xs ys none rest) (passed _ _ zs neither more) q h = in-same P Q e xs ys zs rest more q h

-- what is picked passes the test
pub passes-test : (P : Element → Type 0) (e : Element) (xs ys : List Element) → ArePicked P xs ys → In e ys → P e
passes-test P e _ _ none_left h = absurd h
passes-test P e _ _ (picked x xs ys is rest) (inl same) = subst P same is
passes-test P e _ _ (picked x xs ys is rest) (inr h) = passes-test P e xs ys rest h
passes-test P e _ _ (passed x xs ys none rest) h = passes-test P e xs ys rest h

pub all-pass : (P : Element → Type 0) (mask : List Bool) (xs ys : List Element) → ArePicked P xs ys → AllByRecursion P (items_where_true mask ys)
all-pass P [] xs ys h = tt
all-pass P (b ∷ bs) _ _ none_left = tt
all-pass P (true ∷ bs) _ _ (picked x xs ys is rest) = (is, all-pass P bs xs ys rest)
all-pass P (false ∷ bs) _ _ (picked x xs ys is rest) = all-pass P bs xs ys rest
all-pass P (b ∷ bs) _ _ (passed x xs ys none rest) = all-pass P (b ∷ bs) xs ys rest

pub in-contains : (e : Element) (xs : List Element) → In e xs → Contains xs e
in-contains e [] h = absurd h
in-contains e (x ∷ xs) (inl same) = (0, omega arith, same)
in-contains e (x ∷ xs) (inr h) = Contains-append_right (x ∷ []) xs e (in-contains e xs h)
