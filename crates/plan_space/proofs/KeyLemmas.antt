-- A list covers another where they agree at each place of the other.
use Prim.Native.Nat.{suc, zero}
use Rattle.std.proofs.Common.{◌≡◌, ◌∙◌, ◌<◌, ◌≤◌, ℕ, ◌+◌, Bool, true, false, nat_eq, nat_lt, List, [], ◌∷◌, get_or, length, refl, sym, ap, subst, arith}
use Rattle.std.specs.Prelude.{None, Option, Some, is_some, slice_get}
use Rattle.std.proofs.lemmas.Bool.{and_from, and_parts, eq-eqb, eqb-true, true≢false}
use Rattle.std.proofs.lemmas.Bool.Decides.{nat_tests}
use Rattle.eq_classes.specs.declared.classes.ClassNo.{ClassNo}
use Rattle.pathkeys.specs.work.Finding.{class_numbers, is_class}
use Rattle.pathkeys.specs.Keys.{Keys, covers}

pub covers-at : (a b : Keys) (k : ℕ) → covers a b ≡ true → k < length b → slice_get a k ≡ slice_get b k
covers-at a [] k h lt = absurd (omega (arith, lt))
covers-at [] (n ∷ ns) k h lt = absurd (true≢false (sym h))
covers-at (m ∷ ms) (n ∷ ns) zero h lt = ap Some (eqb-true m n (and_parts (nat_eq m n) (covers ms ns) h).0)
covers-at (m ∷ ms) (n ∷ ns) (suc k) h lt = covers-at ms ns k (and_parts (nat_eq m n) (covers ms ns) h).1 (omega (arith, lt))

pub covers-from : (a b : Keys) → ((k : ℕ) → k < length b → slice_get a k ≡ slice_get b k) → covers a b ≡ true
covers-from [] [] h = refl
covers-from (m ∷ ms) [] h = refl
covers-from [] (n ∷ ns) h = absurd (true≢false (sym (ap is_some (h 0 (omega arith)))))
covers-from (m ∷ ms) (n ∷ ns) h =
    let first : m ≡ n = some-is m n (h 0 (omega arith)) in
    and_from (nat_eq m n) (covers ms ns) (eq-eqb m n first) (covers-from ms ns (λ k lt. h (suc k) (omega (arith, lt))))
  where
    some-is : (x y : ℕ) → Some x ≡ Some y → x ≡ y
    some-is x y e = cc

pub number-at : (cs : List ClassNo) (k : ℕ) (d : ClassNo) → k < length cs → slice_get (class_numbers cs) k ≡ Some (get_or cs k d).0
number-at [] k d lt = absurd (omega (arith, lt))
number-at (c ∷ cs) zero d lt = refl
number-at (c ∷ cs) (suc k) d lt = number-at cs k d (omega (arith, lt))

pub class-at : (n : ℕ) (o : Option ℕ) → is_class n o ≡ true → o ≡ Some n
class-at n None e = absurd (true≢false (sym e))
class-at n (Some m) e = ap Some (sym (eqb-true n m e))

pub other-class : (n : ℕ) (o : Option ℕ) → is_class n o ≡ false → ¬ (o ≡ Some n)
other-class n None e same = cc
other-class n (Some m) e same = let is : n ≡ m = cc in true≢false (sym (eq-eqb n m is) ∙ e)
