-- The first of a list in order, with one more element: what a running minimum keeps.
use Rattle.std.proofs.Common.{◌≡◌, Bool, true, false, cond, List, [], ◌∷◌, ◌++◌, refl, sym, ap, ◌∙◌, Ordering, Less, Equal, Greater}
use Rattle.std.specs.Cmp.{IsTotalOrder, upto}
use Rattle.std.specs.Ordering.{is_gt, ordering_reverse}
use Rattle.std.proofs.lemmas.Bool.{false≢true}
use Rattle.pg_value.specs.declared.value.Value.{Value}
use Rattle.pg_value.specs.Sorting.{put, in_order}
use Rattle.group_values.specs.Groups.{first_or_null}

module _ (order : Value → Value → Ordering) (total : IsTotalOrder order) where
  -- the one of two that stands first, the former where they tie
  abbrev pub former : Value → Value → Value
  former x y = cond (is_gt (order x y)) y x

  -- with the first so far, or none
  abbrev pub kept_first : List Value → Value → Value
  kept_first [] v = v
  kept_first (x ∷ xs) v = former (first_or_null (in_order order (x ∷ xs))) v

  put-first : (x y : Value) (ys : List Value) → first_or_null (put order x (y ∷ ys)) ≡ former x y
  put-first x y ys = by (is_gt (order x y))
    where
      by : (b : Bool) → first_or_null (cond b (y ∷ put order x ys) (x ∷ y ∷ ys)) ≡ cond b y x
      by true = refl
      by false = refl

  -- a list that is not empty stays so
  put-some : (x y : Value) (ys zs : List Value) → zs ≡ put order y ys → first_or_null (put order x zs) ≡ former x (first_or_null zs)
  put-some x y [] zs e = ap (λ l. first_or_null (put order x l)) e ∙ put-first x y [] ∙ sym (ap (λ l. former x (first_or_null l)) e)
  put-some x y (w ∷ ws) zs e = by (is_gt (order y w)) e
    where
      by : (b : Bool) → zs ≡ cond b (w ∷ put order y ws) (y ∷ w ∷ ws) → first_or_null (put order x zs) ≡ former x (first_or_null zs)
      by true f = ap (λ l. first_or_null (put order x l)) f ∙ put-first x w (put order y ws) ∙ sym (ap (λ l. former x (first_or_null l)) f)
      by false f = ap (λ l. first_or_null (put order x l)) f ∙ put-first x y (w ∷ ws) ∙ sym (ap (λ l. former x (first_or_null l)) f)

  turned : (o p : Ordering) → o ≡ ordering_reverse p → is_gt p ≡ true → o ≡ Less
  turned o Less e h = absurd (false≢true h)
  turned o Equal e h = absurd (false≢true h)
  turned o Greater e h = e

  past : (x y z : Value) → is_gt (order x y) ≡ true → is_gt (order y z) ≡ true → is_gt (order x z) ≡ true
  past x y z h k =
      let low = turned (order y x) (order x y) (total.antisymm y x) h in
      let lower = turned (order z y) (order y z) (total.antisymm z y) k in
      ap is_gt (total.antisymm x z ∙ ap ordering_reverse (total.trans z y x lower low))

  -- three: from the right, or from the left
  regroup : (x y z : Value) → former x (former y z) ≡ former (former x y) z
  regroup x y z = by (is_gt (order x y)) (is_gt (order y z)) refl refl
    where
      by : (a b : Bool) → is_gt (order x y) ≡ a → is_gt (order y z) ≡ b → former x (cond b z y) ≡ former (cond a y x) z
      by true true e f = ap (λ c. cond c z x) (past x y z e f) ∙ sym (ap (λ c. cond c z y) f)
      by true false e f = ap (λ c. cond c y x) e ∙ sym (ap (λ c. cond c z y) f)
      by false true e f = refl
      by false false e f = ap (λ c. cond c y x) e ∙ sym (ap (λ c. cond c z x) (upto total x y z e f))

  -- the first of one more
  pub first-more : (vs : List Value) (v : Value) → first_or_null (in_order order (vs ++ v ∷ [])) ≡ kept_first vs v
  first-more [] v = refl
  first-more (x ∷ []) v = put-first x v []
  first-more (x ∷ y ∷ ys) v =
      put-some x y (in_order order (ys ++ v ∷ [])) (in_order order (y ∷ (ys ++ v ∷ []))) refl
      ∙ ap (former x) (first-more (y ∷ ys) v)
      ∙ regroup x (first_or_null (in_order order (y ∷ ys))) v
      ∙ ap (λ w. former w v) (sym (put-some x y (in_order order ys) (in_order order (y ∷ ys)) refl))
