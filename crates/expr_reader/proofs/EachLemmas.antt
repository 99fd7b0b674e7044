-- A list bound from the left, part by part.
use Rattle.std.proofs.Common.{◌≡◌, List, [], ◌∷◌, ◌++◌, All, subst, refl, ap, Result, Ok, Err}
use Rattle.std.proofs.lemmas.List.Elements.{All-cons, All-nil}
use Rattle.pg_base.specs.declared.faults.Fault.{Fault}
use Rattle.expr_reader.specs.Lists.{before_all, bound_each}

module _ {A B : Type 0} (bind : A → Result B Fault) where
  err-by : (r : Result B Fault) (rs rt : Result (List B) Fault) (bs : List B) (f : Fault) → before_all r rs ≡ Ok bs → ((cs : List B) → rs ≡ Ok cs → rt ≡ Err f) → before_all r rt ≡ Err f
  err-by (Err g) rs rt bs f e more = absurd (cc)
  err-by (Ok b) (Err g) rt bs f e more = absurd (cc)
  err-by (Ok b) (Ok cs) rt bs f e more = rw (more cs refl) refl

  pub bound-err : (so : List A) (bs : List B) (w : A) (ws : List A) (f : Fault) → bound_each bind so ≡ Ok bs → bind w ≡ Err f → bound_each bind (so ++ w ∷ ws) ≡ Err f
  bound-err [] bs w ws f e wrong = rw wrong refl
  bound-err (v ∷ so) bs w ws f e wrong = err-by (bind v) (bound_each bind so) _ bs f e (λ cs is. bound-err so cs w ws f is wrong)

  ok-by : (r : Result B Fault) (rs rt : Result (List B) Fault) (bs : List B) (b : B) → before_all r rs ≡ Ok bs → ((cs : List B) → rs ≡ Ok cs → rt ≡ Ok (cs ++ b ∷ [])) → before_all r rt ≡ Ok (bs ++ b ∷ [])
  ok-by (Err g) rs rt bs b e more = absurd (cc)
  ok-by (Ok c) (Err g) rt bs b e more = absurd (cc)
  ok-by (Ok c) (Ok cs) rt bs b e more = let same : c ∷ cs ≡ bs = cc in rw (more cs refl) (ap (λ l. Ok (l ++ b ∷ [])) same)

  pub bound-ok : (so : List A) (bs : List B) (w : A) (b : B) → bound_each bind so ≡ Ok bs → bind w ≡ Ok b → bound_each bind (so ++ w ∷ []) ≡ Ok (bs ++ b ∷ [])
  bound-ok [] bs w b e right = let none : [] ≡ bs = cc in rw right (ap (λ l. Ok (l ++ b ∷ [])) none)
  bound-ok (v ∷ so) bs w b e right = ok-by (bind v) (bound_each bind so) _ bs b e (λ cs is. bound-ok so cs w b is right)

-- what holds of each bound part
module _ {A B : Type 0} (f : A → Result B Fault) (P : B → Type 0) (holds : (x : A) (b : B) → f x ≡ Ok b → P b) where
  each-holds-by : (x : A) (xs : List A) (r : Result B Fault) (rs : Result (List B) Fault) (bs : List B) → f x ≡ r → ((cs : List B) → rs ≡ Ok cs → All P cs) → before_all r rs ≡ Ok bs → All P bs
  each-holds-by x xs (Err e) rs bs is on all = absurd (cc (all))
  each-holds-by x xs (Ok b) (Err e) bs is on all = absurd (cc (all))
  each-holds-by x xs (Ok b) (Ok cs) bs is on all = let same : b ∷ cs ≡ bs = cc (all) in subst (All P) same (All-cons P b cs (holds x b is) (on cs refl))

  pub each-holds : (xs : List A) (bs : List B) → bound_each f xs ≡ Ok bs → All P bs
  each-holds [] bs all = let none : [] ≡ bs = cc (all) in subst (All P) none (All-nil P)
  each-holds (x ∷ xs) bs all = each-holds-by x xs (f x) (bound_each f xs) bs refl (λ cs is. each-holds xs cs is) all
