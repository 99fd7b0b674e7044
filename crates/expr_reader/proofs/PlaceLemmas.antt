-- Where the columns of a list stand first.
use Rattle.std.proofs.Common.{◌≡◌, ◌<◌, ◌+◌, ◌||◌, ℕ, zero, suc, Bool, true, false, cond, List, [], ◌∷◌, ◌++◌, length, take, get_or, replicate, Option, Some, None, refl, sym, ap, ◌∙◌, arith}
use Rattle.std.specs.List.{list_any, position, position_from}
use Rattle.std.specs.Prelude.{IfSome, is_some}
use Rattle.std.proofs.lemmas.Iterator.Adapters.{position_from-zero}
use Rattle.std.proofs.lemmas.List.{length-take-le}
use Rattle.std.proofs.lemmas.List.Quantifiers.{position-Some}
use Rattle.std.proofs.Math.Seq.{take-suc}
use Rattle.pg_expr.specs.declared.operand.ColRef.{ColRef}
use Rattle.expr_reader.specs.work.Places.{AreFirst, HasNoted, earlier, first_place, is_it}

module _ {X : Type 0} (p : X → Bool) where
  one-more : (b : Bool) (i n m : ℕ) (xs ys : Option ℕ) (y : X) → n ≡ m → xs ≡ earlier ys (cond (p y) (Some n) None) → cond b (Some i) xs ≡ earlier (cond b (Some i) ys) (cond (p y) (Some m) None)
  one-more true i n m xs ys y same h = refl
  one-more false i n m xs ys y same h = h ∙ ap (λ k. earlier ys (cond (p y) (Some k) None)) same

  from-snoc : (i : ℕ) (xs : List X) (y : X) → position_from p i (xs ++ y ∷ []) ≡ earlier (position_from p i xs) (cond (p y) (Some (i + length xs)) None)
  from-snoc i [] y = let same : i ≡ i + 0 = omega arith in ap (λ n. cond (p y) (Some n) None) same
  from-snoc i (x ∷ xs) y = one-more (p x) i (i + 1 + length xs) (i + suc (length xs)) _ (position_from p (i + 1) xs) y (omega arith) (from-snoc (i + 1) xs y)

  -- one more at the end
  snoc : (xs : List X) (y : X) → position p (xs ++ y ∷ []) ≡ earlier (position p xs) (cond (p y) (Some (length xs)) None)
  snoc xs y =
      let same : 0 + length xs ≡ length xs = omega arith in
      position_from-zero p (xs ++ y ∷ []) ∙ (from-snoc 0 xs y ∙ (ap (λ n. earlier (position_from p 0 xs) (cond (p y) (Some n) None)) same ∙ ap (λ o. earlier o (cond (p y) (Some (length xs)) None)) (sym (position_from-zero p xs))))

  one-found : (b t : Bool) (i : ℕ) (o : Option ℕ) → is_some o ≡ t → is_some (cond b (Some i) o) ≡ (b || t)
  one-found true t i o h = refl
  one-found false t i o h = h

  some-from : (i : ℕ) (xs : List X) → is_some (position_from p i xs) ≡ list_any p xs
  some-from i [] = refl
  some-from i (x ∷ xs) = one-found (p x) (list_any p xs) i (position_from p (i + 1) xs) (some-from (i + 1) xs)

  -- an item that passes stands in a list exactly where there is a first place of one
  pub some-any : (xs : List X) → is_some (position p xs) ≡ list_any p xs
  some-any xs = ap is_some (position_from-zero p xs) ∙ some-from 0 xs

-- a first place is within the list
pub within-list : (xs : List ColRef) (x : ColRef) (o : Option ℕ) → o ≡ first_place xs x → IfSome o (λ n. n < length xs)
within-list xs x None is = tt
within-list xs x (Some n) is = (position-Some (is_it x) xs n x (sym is)).0

-- the place of one more column is noted
pub noted-next : (xs : List ColRef) (n : ℕ) (d : ColRef) (old new : List (Option ℕ)) → n < length xs → AreFirst (take n xs) old → HasNoted old new (get_or xs n d) n → AreFirst (take (n + 1) xs) new
noted-next xs n d old new lt before noted x num =
    let c : ColRef = get_or xs n d in
    let long : length (take n xs) ≡ n = length-take-le n xs (omega (arith, lt)) in
    let next : n + 1 ≡ suc n = omega arith in
    let grown : take (n + 1) xs ≡ take n xs ++ c ∷ [] = ap (λ k. take k xs) next ∙ take-suc xs n d lt in
    let last : position (is_it x) (take (n + 1) xs) ≡ earlier (position (is_it x) (take n xs)) (cond (is_it x c) (Some n) None) =
    ap (position (is_it x)) grown ∙ (snoc (is_it x) (take n xs) c ∙ ap (λ k. earlier (position (is_it x) (take n xs)) (cond (is_it x c) (Some k) None)) long) in
    noted x num ∙ (ap (λ o. earlier o (cond (is_it x c) (Some n) None)) (before x num) ∙ sym last)

-- no place is noted at first
pub nothing : (n k : ℕ) → get_or (replicate {A = Option ℕ} n None) k None ≡ None
nothing zero k = refl
nothing (suc n) zero = refl
nothing (suc n) (suc k) = nothing n k
