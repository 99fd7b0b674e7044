-- Lists of clauses that hold, clause by clause.
use Rattle.std.proofs.Common.{◌≡◌, Bool, true, false, not, ◌&&◌, ◌||◌, inl, inr, ⊎_elim, List, [], ◌∷◌, ◌++◌, map, flat_map, refl, sym, ap, ◌∙◌, subst}
use Rattle.std.proofs.lemmas.Bool.{and_parts, and_from, true≢false}
use Rattle.opfamily.specs.pg_value_value_Value.{Value}
use Rattle.opfamily.specs.pg_value_Truths.{is_true}
use Rattle.pg_expr.specs.declared.operand.ColRef.{ColRef}
use Rattle.pg_expr.specs.Truths.{truth_at}
use Rattle.eq_classes.specs.Clauses.{Clause, each_pair}
use Rattle.eq_classes.specs.work.Holding.{hold}
use Rattle.eq_classes.proofs.ListLemmas.{IsIn, Before, in_left, in_right, in_parts}
use Rattle.opfamily.proofs.TableLemmas.{implied}

module _ {A B : Type 0} where
  pub in_map : (f : A → B) (xs : List A) (y : B) → IsIn y (map f xs) → (x : A) × IsIn x xs × (y ≡ f x)
  in_map f [] y h = absurd h
  in_map f (z ∷ zs) y (inl e) = (z, inl refl, e)
  in_map f (z ∷ zs) y (inr h) = let w = in_map f zs y h in (w.0, inr w.1, w.2)

  pub map_in : (f : A → B) (xs : List A) (x : A) → IsIn x xs → IsIn (f x) (map f xs)
  map_in f [] x h = absurd h
  map_in f (z ∷ zs) x (inl e) = inl (ap f e)
  map_in f (z ∷ zs) x (inr h) = inr (map_in f zs x h)

  pub in_flat_map : (f : A → List B) (xs : List A) (y : B) → IsIn y (flat_map f xs) → (x : A) × IsIn x xs × IsIn y (f x)
  in_flat_map f [] y h = absurd h
  in_flat_map f (z ∷ zs) y h = ⊎_elim
      (λ (here : IsIn y (f z)). (z, inl refl, here))
      (λ (later : IsIn y (flat_map f zs)). let w = in_flat_map f zs y later in (w.0, inr w.1, w.2))
      (in_parts y (f z) (flat_map f zs) h)

  pub flat_map_in : (f : A → List B) (xs : List A) (x : A) (y : B) → IsIn x xs → IsIn y (f x) → IsIn y (flat_map f xs)
  flat_map_in f [] x y h i = absurd h
  flat_map_in f (z ∷ zs) x y (inl e) i = in_left y (f z) (flat_map f zs) (subst (λ (a : A). IsIn y (f a)) e i)
  flat_map_in f (z ∷ zs) x y (inr h) i = in_right y (f z) (flat_map f zs) (flat_map_in f zs x y h i)

  pub in_each_pair : (f : A → A → B) (xs : List A) (k : B) → IsIn k (each_pair f xs) → (x : A) × (y : A) × Before x y xs × (k ≡ f x y)
  in_each_pair f [] k h = absurd h
  in_each_pair f (z ∷ zs) k h = ⊎_elim
      (λ (here : IsIn k (map (f z) zs)). let w = in_map (f z) zs k here in (z, w.0, inl (refl, w.1), w.2))
      (λ (later : IsIn k (each_pair f zs)). let w = in_each_pair f zs k later in (w.0, w.1, inr w.2, w.3))
      (in_parts k (map (f z) zs) (each_pair f zs) h)

  pub each_pair_in : (f : A → A → B) (xs : List A) (x y : A) → Before x y xs → IsIn (f x y) (each_pair f xs)
  each_pair_in f [] x y h = absurd h
  each_pair_in f (z ∷ zs) x y (inl h) = in_left (f x y) (map (f z) zs) (each_pair f zs) (subst (λ (a : A). IsIn (f a y) (map (f z) zs)) (sym h.0) (map_in (f z) zs y h.1))
  each_pair_in f (z ∷ zs) x y (inr h) = in_right (f x y) (map (f z) zs) (each_pair f zs) (each_pair_in f zs x y h)

or_make : (p q : Bool) → (p ≡ true → q ≡ true) → not p || q ≡ true
or_make true q h = h refl
or_make false q h = refl

module _ (b : ColRef → Value) (chosen : Clause → Bool) where
  pub hold_at : (ks : List Clause) → hold b chosen ks ≡ true → (k : Clause) → IsIn k ks → chosen k ≡ true → is_true (truth_at b k.cond) ≡ true
  hold_at [] h k i is = absurd i
  hold_at (z ∷ zs) h k i is =
      let parts = and_parts (not (chosen z) || is_true (truth_at b z.cond)) (hold b chosen zs) h in
      ⊎_elim
      (λ (e : k ≡ z). implied (chosen k) (is_true (truth_at b k.cond)) (subst (λ (a : Clause). not (chosen a) || is_true (truth_at b a.cond) ≡ true) (sym e) parts.0) is)
      (λ (later : IsIn k zs). hold_at zs parts.1 k later is)
      i

  pub hold_from : (ks : List Clause) → ((k : Clause) → IsIn k ks → chosen k ≡ true → is_true (truth_at b k.cond) ≡ true) → hold b chosen ks ≡ true
  hold_from [] h = refl
  hold_from (z ∷ zs) h = and_from _ _ (or_make (chosen z) (is_true (truth_at b z.cond)) (h z (inl refl))) (hold_from zs (λ k i is. h k (inr i) is))

  and_shift : (p q r : Bool) → p && (q && r) ≡ (p && q) && r
  and_shift true q r = refl
  and_shift false q r = refl

  pub hold-append : (ks ls : List Clause) → hold b chosen (ks ++ ls) ≡ hold b chosen ks && hold b chosen ls
  hold-append [] ls = refl
  hold-append (z ∷ zs) ls = ap (λ (t : Bool). (not (chosen z) || is_true (truth_at b z.cond)) && t) (hold-append zs ls) ∙ and_shift (not (chosen z) || is_true (truth_at b z.cond)) (hold b chosen zs) (hold b chosen ls)
