-- The least of some values does not depend on where they stand.
use Rattle.std.proofs.Common.{◌≡◌, suc, Bool, true, false, cond, List, [], ◌∷◌, length, refl, sym, ap, ◌∙◌, arith, Ordering, Less, Equal, Greater}
use Rattle.std.specs.Cmp.{IsTotalOrder, upto}
use Rattle.std.specs.Ordering.{is_gt, ordering_reverse}
use Rattle.std.proofs.lemmas.Bool.{false≢true}
use Rattle.pg_value.specs.declared.value.Value.{Value}
use Rattle.pg_value.specs.Sorting.{put, in_order}
use Rattle.plan_laws.proofs.PermLemmas.{Perm, none, keep, turn, join}
use Rattle.group_values.specs.Groups.{first_or_null}

pub Perm-length : {A : Type 0} (xs ys : List A) → Perm xs ys → length xs ≡ length ys
Perm-length _ _ none = refl
Perm-length _ _ (keep x xs ys p) = ap suc (Perm-length xs ys p)
Perm-length _ _ (turn x y xs) = refl
Perm-length _ _ (join xs ys zs p q) = Perm-length xs ys p ∙ Perm-length ys zs q

module _ (order : Value → Value → Ordering) (total : IsTotalOrder order) (tied : (v w : Value) → order v w ≡ Equal → v ≡ w) where
  -- the one of two that stands first
  abbrev former : Value → Value → Value
  former x y = cond (is_gt (order x y)) y x

  abbrev least : List Value → Value
  least vs = first_or_null (in_order order vs)

  put-first : (x y : Value) (ys : List Value) → first_or_null (put order x (y ∷ ys)) ≡ former x y
  put-first x y ys = by (is_gt (order x y))
    where
      by : (b : Bool) → first_or_null (cond b (y ∷ put order x ys) (x ∷ y ∷ ys)) ≡ cond b y x
      by true = refl
      by false = refl

  put-some : (x y : Value) (ys zs : List Value) → zs ≡ put order y ys → first_or_null (put order x zs) ≡ former x (first_or_null zs)
  put-some x y [] zs e = ap (λ l. first_or_null (put order x l)) e ∙ put-first x y [] ∙ sym (ap (λ l. former x (first_or_null l)) e)
  put-some x y (w ∷ ws) zs e = by (is_gt (order y w)) e
    where
      by : (b : Bool) → zs ≡ cond b (w ∷ put order y ws) (y ∷ w ∷ ws) → first_or_null (put order x zs) ≡ former x (first_or_null zs)
      by true f = ap (λ l. first_or_null (put order x l)) f ∙ put-first x w (put order y ws) ∙ sym (ap (λ l. former x (first_or_null l)) f)
      by false f = ap (λ l. first_or_null (put order x l)) f ∙ put-first x y (w ∷ ws) ∙ sym (ap (λ l. former x (first_or_null l)) f)

  least-more : (x y : Value) (ys : List Value) → least (x ∷ y ∷ ys) ≡ former x (least (y ∷ ys))
  least-more x y ys = put-some x y (in_order order ys) (in_order order (y ∷ ys)) refl

  lesser : (o p : Ordering) → o ≡ ordering_reverse p → is_gt p ≡ true → o ≡ Less
  lesser o Less e h = absurd (false≢true h)
  lesser o Equal e h = absurd (false≢true h)
  lesser o Greater e h = e

  past : (x y z : Value) → is_gt (order x y) ≡ true → is_gt (order y z) ≡ true → is_gt (order x z) ≡ true
  past x y z h k =
      ap is_gt (total.antisymm x z ∙ ap ordering_reverse (total.trans z y x (lesser (order z y) (order y z) (total.antisymm z y) k) (lesser (order y x) (order x y) (total.antisymm y x) h)))

  -- three: from the right, or from the left
  regroup : (x y z : Value) → former x (former y z) ≡ former (former x y) z
  regroup x y z = by (is_gt (order x y)) (is_gt (order y z)) refl refl
    where
      by : (a b : Bool) → is_gt (order x y) ≡ a → is_gt (order y z) ≡ b → former x (cond b z y) ≡ former (cond a y x) z
      by true true e f = ap (λ c. cond c z x) (past x y z e f) ∙ sym (ap (λ c. cond c z y) f)
      by true false e f = ap (λ c. cond c y x) e ∙ sym (ap (λ c. cond c z y) f)
      by false true e f = refl
      by false false e f = ap (λ c. cond c y x) e ∙ sym (ap (λ c. cond c z x) (upto total x y z e f))

  -- two: either way
  either-way : (x y : Value) → former x y ≡ former y x
  either-way x y = by (order x y) (order y x) refl refl (total.antisymm x y)
    where
      by : (o p : Ordering) → order x y ≡ o → order y x ≡ p → order x y ≡ ordering_reverse (order y x) → cond (is_gt o) y x ≡ cond (is_gt p) x y
      by Less Less e f h = absurd (no (sym e ∙ h ∙ ap ordering_reverse f))
        where
          no : Less ≡ Greater → ⊥
          no g = cc
      by Less Equal e f h = absurd (no (sym e ∙ h ∙ ap ordering_reverse f))
        where
          no : Less ≡ Equal → ⊥
          no g = cc
      by Less Greater e f h = refl
      by Equal Less e f h = absurd (no (sym e ∙ h ∙ ap ordering_reverse f))
        where
          no : Equal ≡ Greater → ⊥
          no g = cc
      by Equal Equal e f h = tied x y e
      by Equal Greater e f h = refl
      by Greater Less e f h = refl
      by Greater Equal e f h = absurd (no (sym e ∙ h ∙ ap ordering_reverse f))
        where
          no : Greater ≡ Equal → ⊥
          no g = cc
      by Greater Greater e f h = absurd (no (sym e ∙ h ∙ ap ordering_reverse f))
        where
          no : Greater ≡ Less → ⊥
          no g = cc

  keep-one : (x : Value) (xs ys : List Value) → length xs ≡ length ys → least xs ≡ least ys → least (x ∷ xs) ≡ least (x ∷ ys)
  keep-one x [] [] l e = refl
  keep-one x [] (y ∷ ys) l e = absurd (omega (arith, l))
  keep-one x (w ∷ ws) [] l e = absurd (omega (arith, l))
  keep-one x (w ∷ ws) (y ∷ ys) l e = least-more x w ws ∙ ap (former x) e ∙ sym (least-more x y ys)

  turn-two : (x y : Value) (xs : List Value) → least (x ∷ y ∷ xs) ≡ least (y ∷ x ∷ xs)
  turn-two x y [] = least-more x y [] ∙ either-way x y ∙ sym (least-more y x [])
  turn-two x y (w ∷ ws) =
      least-more x y (w ∷ ws) ∙ ap (former x) (least-more y w ws)
      ∙ regroup x y (least (w ∷ ws)) ∙ ap (λ v. former v (least (w ∷ ws))) (either-way x y) ∙ sym (regroup y x (least (w ∷ ws)))
      ∙ sym (least-more y x (w ∷ ws) ∙ ap (former y) (least-more x w ws))

  pub least-moved : (xs ys : List Value) → Perm xs ys → first_or_null (in_order order xs) ≡ first_or_null (in_order order ys)
  least-moved _ _ none = refl
  least-moved _ _ (keep x xs ys p) = keep-one x xs ys (Perm-length xs ys p) (least-moved xs ys p)
  least-moved _ _ (turn x y xs) = turn-two x y xs
  least-moved _ _ (join xs ys zs p q) = least-moved xs ys p ∙ least-moved ys zs q
