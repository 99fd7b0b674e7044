-- Options and results: what is there, and what is not.
use Rattle.std.proofs.Common.{ℕ, List, [], sym, append-nil, Option, Some, None, ◌≡◌, refl, ◌-◌, ◌+◌, Bool, true, false, cond, ◌||◌, ◌∷◌, Result, Ok, Err, OnErr, is_some}
use Rattle.std.specs.Io.KnownBytes.{Appends}
use Rattle.std.specs.Prelude.{Option, None, Some}
use Rattle.std.specs.Option.{option_or}
use Rattle.std.specs.List.{list_any, position_from}
use Rattle.std.proofs.lemmas.Bool.{true≢false, false≢true}

pub appends-none : (a : Option (List ℕ)) → Appends a a []
appends-none None = tt
appends-none (Some xs) = sym (append-nil xs)

pub some-or : (o : Option ℕ) → option_or o None ≡ o
some-or None = refl
some-or (Some n) = refl

pub some-same : {A : Type 0} (x y : A) → Some x ≡ Some y → x ≡ y
some-same x y e = cc

pub found-none : {A : Type 0} (p : A → Bool) (i : ℕ) (xs : List A) → position_from p i xs ≡ None → list_any p xs ≡ true → ⊥
found-none p i [] h g = true≢false (sym g)
found-none {A} p i (x ∷ xs) h g = by (found-none p (i + 1) xs) (p x) h g
  where
    by : (position_from p (i + 1) xs ≡ None → list_any p xs ≡ true → ⊥) → (v : Bool) → cond v (Some i) (position_from p (i + 1) xs) ≡ None → v || list_any p xs ≡ true → ⊥
    by later true e g = cc
    by later false e g = later e g

pub none-some : {A : Type 0} (x : A) → None ≡ Some x → ⊥
none-some x e = cc

pub none-some-too : {A : Type 0} (o : Option A) (a : A) → o ≡ None → o ≡ Some a → ⊥
none-some-too o a e f = cc

pub on-err : {E : Type 0} (r : Result (Unit {0}) E) (P : Type 0) → P → OnErr r P
on-err (Ok u) P holds = tt
on-err (Err e) P holds = holds

-- what is not there is None
pub is-none : {X : Type 0} (x : Option X) → is_some x ≡ false → x ≡ None
is-none None e = refl
is-none (Some x) e = absurd (false≢true (sym e))
