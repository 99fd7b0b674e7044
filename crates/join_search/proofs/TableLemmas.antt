-- Fronts found among those that were put somewhere.
use Rattle.std.proofs.Common.{◌≡◌, ◌⊎◌, ◌<◌, ◌≤◌, ℕ, zero, suc, ◌+◌, Bool, true, false, cond, nat_eq, List, [], ◌∷◌, ◌++◌, length, map, get_or, set, take, inl, inr, refl, sym, ◌∙◌, ap, subst, arith}
use Rattle.std.specs.Prelude.{All, Contains, Option, Some, None, Vec}
use Rattle.std.specs.Global.{Global}
use Rattle.std.proofs.Math.Seq.{take-suc}
use Rattle.std.proofs.lemmas.Bool.{cases_lt, eq-eqb, eqb-true, true≢false}
use Rattle.std.proofs.lemmas.Bool.Decides.{nat_tests}
use Rattle.std.proofs.lemmas.List.{length-append, map-append}
use Rattle.std.proofs.lemmas.List.Elements.{All-head, All-tail, Contains-append_right}
use Rattle.pg_base.specs.declared.rel_set.RelSet.{RelSet}
use Rattle.plan_tree.specs.work.Views.{path}
use Rattle.plan_tree.specs.declared.path.Path.{Path as Costed}
use Rattle.join_search.specs.declared.table.Placed.{Placed}
use Rattle.join_search.specs.work.Joins.{IsSingle}
use Rattle.join_search.specs.work.Tables.{IsSamePlace, found_at, is_at, list_at, set_numbered, params_of, paths_of, with_front}

pub same-number : (a b : RelSet) → a.0 ≡ b.0 → a ≡ b
same-number a b e = ap (λ (n : ℕ). let s : RelSet = record { 0 = n } in s) e

-- what stands at one parameterisation stands at no other
pub no-other : (p o : RelSet) (x : Placed) → is_at p x ≡ true → ¬ (o.0 ≡ p.0) → (b : Bool) → is_at o x ≡ b → b ≡ false
no-other p o x e other true f = absurd (other (sym (eqb-true x.param.0 o.0 f) ∙ eqb-true x.param.0 p.0 e))
no-other p o x e other false f = refl

-- the first that stands there
pub first-found : (p : RelSet) (xs : List Placed) (n : ℕ) (x : Placed) → n < length xs → x ≡ get_or xs n x → All (λ y. is_at p y ≡ false) (take n xs) → is_at p x ≡ true → found_at p xs ≡ Some x.front
first-found p [] n x lt e before is = absurd (omega (arith, lt))
first-found p (y ∷ xs) zero x lt e before is =
    ap (λ b. cond b (Some y.front) (found_at p xs)) (sym (ap (is_at p) e) ∙ is) ∙ ap (λ (z : Placed). Some z.front) (sym e)
first-found p (y ∷ xs) (suc n) x lt e before is =
    ap (λ b. cond b (Some y.front) (found_at p xs)) (All-head (λ z. is_at p z ≡ false) y (take n xs) before)
    ∙ first-found p xs n x (omega (arith, lt)) e (All-tail (λ z. is_at p z ≡ false) y (take n xs) before) is

pub none-found : (p : RelSet) (xs : List Placed) → All (λ y. is_at p y ≡ false) xs → found_at p xs ≡ None
none-found p [] none = refl
none-found p (y ∷ xs) none =
    ap (λ b. cond b (Some y.front) (found_at p xs)) (All-head (λ z. is_at p z ≡ false) y xs none)
    ∙ none-found p xs (All-tail (λ z. is_at p z ≡ false) y xs none)

pub put-here : (p : RelSet) (f : List Costed) (xs : List Placed) (n : ℕ) (x : Placed) → n < length xs → x ≡ get_or xs n x → All (λ y. is_at p y ≡ false) (take n xs) → is_at p x ≡ true → found_at p (with_front xs n f) ≡ Some f
put-here p f [] n x lt e before is = absurd (omega (arith, lt))
put-here p f (y ∷ xs) zero x lt e before is = ap (λ b. cond b (Some f) (found_at p xs)) (sym (ap (is_at p) e) ∙ is)
put-here p f (y ∷ xs) (suc n) x lt e before is =
    ap (λ b. cond b (Some y.front) (found_at p (with_front xs n f))) (All-head (λ z. is_at p z ≡ false) y (take n xs) before)
    ∙ put-here p f xs n x (omega (arith, lt)) e (All-tail (λ z. is_at p z ≡ false) y (take n xs) before) is

pub put-others : (p o : RelSet) (f : List Costed) (xs : List Placed) (n : ℕ) (x : Placed) → ¬ (o.0 ≡ p.0) → n < length xs → x ≡ get_or xs n x → is_at p x ≡ true → found_at o (with_front xs n f) ≡ found_at o xs
put-others p o f [] n x other lt e is = absurd (omega (arith, lt))
put-others p o f (y ∷ xs) zero x other lt e is =
    let never : is_at o y ≡ false = no-other p o y (sym (ap (is_at p) e) ∙ is) other (is_at o y) refl in
    ap (λ b. cond b (Some f) (found_at o xs)) never ∙ sym (ap (λ b. cond b (Some y.front) (found_at o xs)) never)
put-others p o f (y ∷ xs) (suc n) x other lt e is =
    ap (cond (is_at o y) (Some y.front)) (put-others p o f xs n x other (omega (arith, lt)) e is)

-- one more behind the others
pub added-here : (p : RelSet) (xs : List Placed) (x : Placed) → is_at p x ≡ true → found_at p xs ≡ None → found_at p (xs ++ x ∷ []) ≡ Some x.front
added-here p [] x is none = ap (λ b. cond b (Some x.front) None) is
added-here p (y ∷ xs) x is none = by (is_at p y) none (added-here p xs x is)
  where
    by : (b : Bool) → cond b (Some y.front) (found_at p xs) ≡ None → (found_at p xs ≡ None → found_at p (xs ++ x ∷ []) ≡ Some x.front) → cond b (Some y.front) (found_at p (xs ++ x ∷ [])) ≡ Some x.front
    by true never later = cc
    by false never later = later never

pub added-others : (o : RelSet) (xs : List Placed) (x : Placed) → is_at o x ≡ false → found_at o (xs ++ x ∷ []) ≡ found_at o xs
added-others o [] x is = ap (λ b. cond b (Some x.front) None) is
added-others o (y ∷ xs) x is = ap (cond (is_at o y) (Some y.front)) (added-others o xs x is)

-- the parameterisation of each front of a set is among those of the set
pub params-found : (p : RelSet) (f : List Costed) (xs : List Placed) → found_at p xs ≡ Some f → Contains (params_of xs) p
params-found p f [] e = absurd cc
params-found p f (y ∷ xs) e = by (is_at p y) refl e (params-found p f xs)
  where
    by : (b : Bool) → is_at p y ≡ b → cond b (Some y.front) (found_at p xs) ≡ Some f → (found_at p xs ≡ Some f → Contains (params_of xs) p) → Contains (params_of (y ∷ xs)) p
    by true is same later = (0, omega arith, same-number y.param p (eqb-true y.param.0 p.0 is))
    by false is same later = Contains-append_right (y.param ∷ []) (params_of xs) p (later same)

-- the parameterisation of one more front
pub params-more : (xs : List Placed) (n : ℕ) (x : Placed) (old new : List RelSet) → n < length xs → x ≡ get_or xs n x → old ≡ params_of (take n xs) → new ≡ old ++ x.param ∷ [] → new ≡ params_of (take (n + 1) xs)
params-more xs n x old new lt is before e =
    let next : suc n ≡ n + 1 = omega arith in
    e ∙ ap (λ l. l ++ x.param ∷ []) before ∙ sym (map-append (λ (f : Placed). f.param) (take n xs) (x ∷ [])) ∙ ap (λ y. params_of (take n xs ++ y ∷ [])) is ∙ ap params_of (sym (take-suc xs n x lt)) ∙ ap (λ k. params_of (take k xs)) next

-- a front written in its place
set-is : (xs : List Placed) (n : ℕ) (r : Placed) (f : List Costed) → n < length xs → r ≡ get_or xs n r → set xs n (record { param = r.param; front = f }) ≡ with_front xs n f
set-is [] n r f lt e = absurd (omega (arith, lt))
set-is (x ∷ xs) zero r f lt e = ap (λ (y : Placed). let z : Placed = record { param = y.param; front = f } in z ∷ xs) e
set-is (x ∷ xs) (suc n) r f lt e = ap (λ ys. x ∷ ys) (set-is xs n r f (omega (arith, lt)) e)

pub put-set : (p : RelSet) (o : Option (List Costed)) (ys xs : List Placed) (n : ℕ) (r : Placed) (f : List Costed) → ys ≡ xs → n < length ys → r ≡ get_or xs n r → found_at p (with_front ys n f) ≡ o →
    found_at p (set xs n (record { param = r.param; front = f })) ≡ o
put-set p o ys xs n r f same lt e h =
    ap (found_at p) (set-is xs n r f (subst (λ (l : List Placed). n < length l) same lt) e) ∙ ap (λ l. found_at p (with_front l n f)) (sym same) ∙ h

-- an empty list behind the others
pub list-grown : (vs : List (Vec Placed Global)) (v : Vec Placed Global) (n : ℕ) → v.items ≡ [] → list_at (vs ++ v ∷ []) n ≡ list_at vs n
list-grown [] v zero e = e
list-grown [] v (suc n) e = refl
list-grown (w ∷ vs) v zero e = refl
list-grown (w ∷ vs) v (suc n) e = list-grown vs v n e

pub one-longer : (vs ws : List (Vec Placed Global)) (v : Vec Placed Global) (n : ℕ) → ws ≡ vs ++ v ∷ [] → n ≤ length vs → n + 1 ≤ length ws
one-longer vs ws v n e le = let many = ap (λ (xs : List (Vec Placed Global)). length xs) e ∙ length-append vs (v ∷ []) in omega (arith, many, le)

pub list-here : (vs : List (Vec Placed Global)) (n : ℕ) (r : Vec Placed Global) → n < length vs → r ≡ get_or vs n r → list_at vs n ≡ r.items
list-here [] n r lt e = absurd (omega (arith, lt))
list-here (w ∷ vs) zero r lt e = ap (λ (v : Vec Placed Global). v.items) (sym e)
list-here (w ∷ vs) (suc n) r lt e = list-here vs n r (omega (arith, lt)) e

pub list-none : (vs : List (Vec Placed Global)) (n : ℕ) → length vs ≤ n → list_at vs n ≡ []
list-none [] n le = refl
list-none (w ∷ vs) zero le = absurd (omega (arith, le))
list-none (w ∷ vs) (suc n) le = list-none vs n (omega (arith, le))

-- a list written in its place
pub list-set : (vs : List (Vec Placed Global)) (n : ℕ) (v : Vec Placed Global) → n < length vs → list_at (set vs n v) n ≡ v.items
list-set [] n v lt = absurd (omega (arith, lt))
list-set (w ∷ vs) zero v lt = refl
list-set (w ∷ vs) (suc n) v lt = list-set vs n v (omega (arith, lt))

pub list-others : (vs : List (Vec Placed Global)) (n k : ℕ) (v : Vec Placed Global) → ¬ (k ≡ n) → list_at (set vs n v) k ≡ list_at vs k
list-others [] n k v other = refl
list-others (w ∷ vs) zero zero v other = absurd (other refl)
list-others (w ∷ vs) zero (suc k) v other = refl
list-others (w ∷ vs) (suc n) zero v other = refl
list-others (w ∷ vs) (suc n) (suc k) v other = list-others vs n k v (λ e. other (ap suc e))

-- what is found elsewhere than where a list was written is what was found before
pub put-elsewhere : (vs old : List (Vec Placed Global)) (s p t o : RelSet) (v : Vec Placed Global) → s.0 < length vs → ((n : ℕ) → list_at vs n ≡ list_at old n) →
    ((r : RelSet) → ¬ (r.0 ≡ p.0) → found_at r v.items ≡ found_at r (list_at vs s.0)) → ¬ IsSamePlace t o s p → found_at o (list_at (set vs s.0 v) t.0) ≡ found_at o (list_at old t.0)
put-elsewhere vs old s p t o v lt same others other = by (nat_eq t.0 s.0) refl
  where
    by : (b : Bool) → nat_eq t.0 s.0 ≡ b → found_at o (list_at (set vs s.0 v) t.0) ≡ found_at o (list_at old t.0)
    by true e =
        let n = eqb-true t.0 s.0 e in
        ap (λ k. found_at o (list_at (set vs s.0 v) k)) n ∙ ap (found_at o) (list-set vs s.0 v lt) ∙ others o (λ f. other (n, f)) ∙ ap (found_at o) (same s.0) ∙ ap (λ k. found_at o (list_at old k)) (sym n)
    by false e = ap (found_at o) (list-others vs s.0 t.0 v (λ n. true≢false (sym (eq-eqb t.0 s.0 n) ∙ e)) ∙ same t.0)

-- where no front has a path nothing is found
pub none-there : (p : RelSet) (xs : List Placed) → All (λ (x : Placed). x.front ≡ []) xs → paths_of (found_at p xs) ≡ []
none-there p [] h = refl
none-there p (y ∷ xs) h = by (is_at p y) (All-head (λ (x : Placed). x.front ≡ []) y xs h) (none-there p xs (All-tail (λ (x : Placed). x.front ≡ []) y xs h))
  where
    by : (b : Bool) → y.front ≡ [] → paths_of (found_at p xs) ≡ [] → paths_of (cond b (Some y.front) (found_at p xs)) ≡ []
    by true e later = ap (map path) e
    by false e later = later

-- no list below a number but those of single relations has fronts
pub forgot-more : (old new : List (Vec Placed Global)) (n : ℕ) → ((k : ℕ) → k < n → IsSingle (set_numbered k) ⊎ (list_at old k ≡ [])) → IsSingle (set_numbered n) ⊎ (list_at new n ≡ []) →
    ((k : ℕ) → ¬ (k ≡ n) → list_at new k ≡ list_at old k) → (k : ℕ) → k < n + 1 → IsSingle (set_numbered k) ⊎ (list_at new k ≡ [])
forgot-more old new n before here others k lt = by (nat_eq k n) refl
  where
    earlier : ¬ (k ≡ n) → IsSingle (set_numbered k) ⊎ (list_at old k ≡ []) → IsSingle (set_numbered k) ⊎ (list_at new k ≡ [])
    earlier other (inl single) = inl single
    earlier other (inr e) = inr (others k other ∙ e)

    by : (b : Bool) → nat_eq k n ≡ b → IsSingle (set_numbered k) ⊎ (list_at new k ≡ [])
    by true e = subst (λ m. IsSingle (set_numbered m) ⊎ (list_at new m ≡ [])) (sym (eqb-true k n e)) here
    by false e = let other : ¬ (k ≡ n) = λ same. true≢false (sym (eq-eqb k n same) ∙ e) in earlier other (before k (grind (arith, nat_tests, lt, e)))

pub forgot-all : (vs : List (Vec Placed Global)) (n : ℕ) → ((k : ℕ) → k < n → IsSingle (set_numbered k) ⊎ (list_at vs k ≡ [])) → length vs ≤ n → (k : ℕ) → IsSingle (set_numbered k) ⊎ (list_at vs k ≡ [])
forgot-all vs n before le k = by (cases_lt k n)
  where
    by : (k < n) ⊎ (n ≤ k) → IsSingle (set_numbered k) ⊎ (list_at vs k ≡ [])
    by (inl lt) = before k lt
    by (inr past) = inr (list-none vs k (omega (arith, le, past)))

-- what is found then is of a single relation
pub found-single : (vs : List (Vec Placed Global)) (s p : RelSet) (f : List Costed) → IsSingle s ⊎ (list_at vs s.0 ≡ []) → found_at p (list_at vs s.0) ≡ Some f → IsSingle s
found-single vs s p f (inl single) e = single
found-single vs s p f (inr none) e = absurd (never (sym (ap (found_at p) none) ∙ e))
  where
    never : None ≡ Some f → ⊥
    never wrong = cc
