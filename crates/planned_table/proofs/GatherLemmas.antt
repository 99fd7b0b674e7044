-- The paths of fronts gathered place by place.
use Prim.Native.Nat.{suc}
use Rattle.std.proofs.Common.{◌≡◌, ◌<◌, ◌≤◌, ◌⊎◌, inl, inr, ℕ, ◌+◌, Bool, true, false, ◌&&◌, nat_eq, nat_le, List, [], ◌∷◌, ◌++◌, get_or, length, map, refl, sym, ◌∙◌, subst, subst₂, arith}
use Rattle.std.specs.Prelude.{All, AllPairs, Contains}
use Rattle.std.proofs.lemmas.Bool.{cases_lt, eq-eqb, eqb-true}
use Rattle.std.proofs.lemmas.List.{get_or-map, length-map}
use Rattle.std.proofs.lemmas.List.Elements.{All-append, All-contains_itself, All-head, All-nil, All-tail, All-weaker, Contains-append_left, Contains-append_right}
use Rattle.std.proofs.lemmas.List.Kept.{AllPairs-cons}
use Rattle.pg_base.specs.Sets.{has}
use Rattle.pg_base.specs.declared.rel_set.RelSet.{RelSet}
use Rattle.pg_base.proofs.SetLaws.{same_set}
use Rattle.eq_classes.specs.Clauses.{one}
use Rattle.pareto.specs.work.Front.{Unrelated}
use Rattle.plan_tree.specs.work.Paths.{Path, is_at_most}
use Rattle.plan_tree.specs.Space.{IsSameSet}
use Rattle.plan_tree.specs.declared.path.Path.{Path as Costed}
use Rattle.join_search.specs.work.Tables.{Fronts, IsSamePlace}
use Rattle.join_search.proofs.TableLemmas.{same-number as same_number}
use Rattle.planned_table.specs.work.Gathering.{AreGathered, AreUnrelated, IsBelow, IsBelowOr, IsWholeBelow, Places, StandAtTheirs}

pairs-append : (R : Path → Path → Type 0) (xs ys : List Path) → AllPairs R xs → AllPairs R ys → All (λ x. All (R x) ys) xs → AllPairs R (xs ++ ys)
pairs-append R [] ys h g cross = g
pairs-append R (x ∷ xs) ys h g cross =
    AllPairs-cons R x (xs ++ ys)
    (All-append (R x) xs ys (λ k d lt. h 0 (suc k) d (omega arith) (omega (arith, lt))) (All-head (λ z. All (R z) ys) x xs cross))
    (pairs-append R xs ys (λ i j d lt within. h (suc i) (suc j) d (omega (arith, lt)) (omega (arith, within))) g (All-tail (λ z. All (R z) ys) x xs cross))

-- paths of different places are not at most one another
apart-by : (a b : Bool) (rest : Bool) → (a ≡ true → b ≡ true → ⊥) → a && (b && rest) ≡ false
apart-by true true rest h = absurd (h refl refl)
apart-by true false rest h = refl
apart-by false b rest h = refl

not-at-most : (x y : Path) → (IsSamePlace x.set x.param y.set y.param → ⊥) → is_at_most x y ≡ false
not-at-most x y other =
    apart-by (nat_eq x.set.0 y.set.0) (nat_eq x.param.0 y.param.0) (nat_le x.startup y.startup && (nat_le x.cost y.cost && _))
    (λ s p. other (eqb-true x.set.0 y.set.0 s, eqb-true x.param.0 y.param.0 p))

unrelated-apart : (x y : Path) → (IsSamePlace x.set x.param y.set y.param → ⊥) → Unrelated is_at_most x y
unrelated-apart x y other = (not-at-most x y other, not-at-most y x (λ same. other (sym same.0, sym same.1)))

-- one more front
module _ (P Q : Places) (fronts : Fronts) (s p : RelSet) (stand : StandAtTheirs fronts) (unrelated : AreUnrelated (fronts s p)) (fresh : P s p → ⊥)
    (wider : (t o : RelSet) → P t o → Q t o) (here : Q s p) (only : (t o : RelSet) → Q t o → P t o ⊎ IsSamePlace t o s p) (old : List Path) (before : AreGathered P fronts old) where
  abbrev Old : Path → Type 0
  Old x = P x.set x.param × Contains (fronts x.set x.param) x

  abbrev New : Path → Type 0
  New x = Q x.set x.param × Contains (fronts x.set x.param) x

  abbrev Here : Path → Type 0
  Here x = (x.set ≡ s) × (x.param ≡ p)

  at-here : (x : Path) → Contains (fronts s p) x → Here x → New x
  at-here x there at =
      (subst₂ Q (sym at.0) (sym at.1) here, subst₂ (λ (t o : RelSet). Contains (fronts t o) x) (sym at.0) (sym at.1) there)

  here-new : All New (fronts s p)
  here-new k d lt = at-here _ (All-contains_itself (fronts s p) k d lt) (stand s p k d lt)

  apart-here : (x : Path) → Old x → All (Unrelated is_at_most x) (fronts s p)
  apart-here x h = All-weaker Here (Unrelated is_at_most x) each (fronts s p) (stand s p)
    where
      each : (y : Path) → Here y → Unrelated is_at_most x y
      each y at = unrelated-apart x y
          (λ same. fresh (subst₂ P (same_number x.set y.set same.0 ∙ at.0) (same_number x.param y.param same.1 ∙ at.1) h.0))

  all-after : (t o : RelSet) → P t o ⊎ IsSamePlace t o s p → All (Contains (old ++ fronts s p)) (fronts t o)
  all-after t o (inl h) = All-weaker (Contains old) (Contains (old ++ fronts s p)) (λ x. Contains-append_left old (fronts s p) x) (fronts t o) (before.all t o h)
  all-after t o (inr same) =
      subst₂ (λ (x y : RelSet). All (Contains (old ++ fronts s p)) (fronts x y)) (sym (same_number t s same.0)) (sym (same_number o p same.1))
      (All-weaker (Contains (fronts s p)) (Contains (old ++ fronts s p)) (λ x. Contains-append_right old (fronts s p) x) (fronts s p) (All-contains_itself (fronts s p)))

  added : AreGathered Q fronts (old ++ fronts s p)
  added = record {
    from = All-append New old (fronts s p) (All-weaker Old New (λ x h. (wider x.set x.param h.0, h.1)) old before.from) here-new;
    all = λ t o h. all-after t o (only t o h);
    apart = pairs-append (Unrelated is_at_most) old (fronts s p) before.apart unrelated (All-weaker Old (λ x. All (Unrelated is_at_most x) (fronts s p)) apart-here old before.from);
  }

  pub gathered-more : (new : List Path) → new ≡ old ++ fronts s p → AreGathered Q fronts new
  gathered-more new e = subst (AreGathered Q fronts) (sym e) added

pub gathered-none : (P : Places) (fronts : Fronts) → ((t o : RelSet) → P t o → ⊥) → AreGathered P fronts []
gathered-none P fronts none = record {
  from = All-nil (λ (x : Path). P x.set x.param × Contains (fronts x.set x.param) x);
  all = λ t o h. absurd (none t o h);
  apart = λ i j d lt within. absurd (omega (arith, within));
}

-- paths that are gathered of some places are gathered of any that are the same places
pub gathered-as : (P Q : Places) (fronts : Fronts) (paths : List Path) → ((t o : RelSet) → P t o → Q t o) → ((t o : RelSet) → Q t o → P t o) → AreGathered P fronts paths → AreGathered Q fronts paths
gathered-as P Q fronts paths to from h = record {
  from = All-weaker (λ (x : Path). P x.set x.param × Contains (fronts x.set x.param) x) (λ (x : Path). Q x.set x.param × Contains (fronts x.set x.param) x) (λ x g. (to x.set x.param g.0, g.1)) paths h.from;
  all = λ t o g. h.all t o (from t o g);
  apart = h.apart;
}

below-or-is : (m n : ℕ) → m < n + 1 → (m < n) ⊎ (m ≡ n)
below-or-is m n lt = elim (cases_lt m n) [ inl h ↦ inl h | inr h ↦ inr (omega (arith, lt, h)) ]

-- sets without a parameterisation, by number
pub whole-none : (fronts : Fronts) → AreGathered (IsWholeBelow 0) fronts []
whole-none fronts = gathered-none (IsWholeBelow 0) fronts (λ t o h. let lt = h.0 in omega (arith, lt))

pub whole-more : (fronts : Fronts) (n : ℕ) (s p : RelSet) (old new : List Path) → StandAtTheirs fronts → AreUnrelated (fronts s p) → s.0 ≡ n → p.0 ≡ 0 → AreGathered (IsWholeBelow n) fronts old →
    new ≡ old ++ fronts s p → AreGathered (IsWholeBelow (n + 1)) fronts new
whole-more fronts n s p old new stand unrelated is zero-is before =
    gathered-more (IsWholeBelow n) (IsWholeBelow (n + 1)) fronts s p stand unrelated
    (λ h. let lt = h.0 in omega (arith, lt, is))
    (λ t o h. let lt = h.0 in (omega (arith, lt), h.1))
    (omega (arith, is), zero-is)
    only old before new
  where
    only : (t o : RelSet) → IsWholeBelow (n + 1) t o → IsWholeBelow n t o ⊎ IsSamePlace t o s p
    only t o h = elim (below-or-is t.0 n h.0) [ inl lt ↦ inl (lt, h.1) | inr same ↦ inr (same ∙ sym is, h.1 ∙ sym zero-is) ]

pub whole-first : (fronts : Fronts) (all : ℕ) (paths : List Path) → AreGathered (IsWholeBelow (all + 1)) fronts paths → AreGathered (IsBelow all 0) fronts paths
whole-first fronts all paths =
    gathered-as (IsWholeBelow (all + 1)) (IsBelow all 0) fronts paths (λ t o h. inl h) back
  where
    back : (t o : RelSet) → IsBelow all 0 t o → IsWholeBelow (all + 1) t o
    back t o (inl h) = h
    back t o (inr h) = absurd (let lt = h.3 in omega (arith, lt))

-- the sets of one relation, by the number of the parameterisation
pub given-none : (fronts : Fronts) (all n : ℕ) (paths : List Path) → AreGathered (IsBelow all n) fronts paths → AreGathered (IsBelowOr all n 1) fronts paths
given-none fronts all n paths =
    gathered-as (IsBelow all n) (IsBelowOr all n 1) fronts paths (λ t o h. inl h) back
  where
    back : (t o : RelSet) → IsBelowOr all n 1 t o → IsBelow all n t o
    back t o (inl h) = h
    back t o (inr h) = absurd (let some = h.0 in let lt = h.1 in omega (arith, some, lt))

one-relation : (s : RelSet) (r n : ℕ) → IsSameSet (has s.0) (one r) → IsSameSet (has s.0) (one n) → r ≡ n
one-relation s r n h g = eqb-true r n (sym (g r) ∙ h r ∙ eq-eqb r r refl)

pub given-more : (fronts : Fronts) (all n most : ℕ) (s p : RelSet) (old new : List Path) → StandAtTheirs fronts → AreUnrelated (fronts s p) → IsSameSet (has s.0) (one n) → p.0 ≡ most → 1 ≤ most →
    AreGathered (IsBelowOr all n most) fronts old → new ≡ old ++ fronts s p → AreGathered (IsBelowOr all n (most + 1)) fronts new
given-more fronts all n most s p old new stand unrelated single is some before =
    gathered-more (IsBelowOr all n most) (IsBelowOr all n (most + 1)) fronts s p stand unrelated fresh wider (inr (omega (arith, is, some), omega (arith, is), single)) only old before new
  where
    fresh : IsBelowOr all n most s p → ⊥
    fresh (inl (inl h)) = let zero-is = h.1 in omega (arith, zero-is, is, some)
    fresh (inl (inr h)) = let lt = h.3 in let same = one-relation s h.2 n h.4 single in omega (arith, lt, same)
    fresh (inr h) = let lt = h.1 in omega (arith, lt, is)

    wider : (t o : RelSet) → IsBelowOr all n most t o → IsBelowOr all n (most + 1) t o
    wider t o (inl h) = inl h
    wider t o (inr h) = let lt = h.1 in inr (h.0, omega (arith, lt), h.2)

    only : (t o : RelSet) → IsBelowOr all n (most + 1) t o → IsBelowOr all n most t o ⊎ IsSamePlace t o s p
    only t o (inl h) = inl (inl h)
    only t o (inr h) = elim (below-or-is o.0 most h.1) [
      | inl lt ↦ inl (inr (h.0, lt, h.2))
      | inr same ↦ inr (same_set t.0 s.0 (λ k. h.2 k ∙ sym (single k)), same ∙ sym is)
    ]

pub given-all : (fronts : Fronts) (all n most : ℕ) (paths : List Path) → most ≡ all + 1 → AreGathered (IsBelowOr all n most) fronts paths → AreGathered (IsBelow all (n + 1)) fronts paths
given-all fronts all n most paths is = gathered-as (IsBelowOr all n most) (IsBelow all (n + 1)) fronts paths to back
  where
    to : (t o : RelSet) → IsBelowOr all n most t o → IsBelow all (n + 1) t o
    to t o (inl (inl h)) = inl h
    to t o (inl (inr h)) = let lt = h.3 in inr (h.0, h.1, h.2, omega (arith, lt), h.4)
    to t o (inr h) = let lt = h.1 in inr (h.0, omega (arith, lt, is), n, omega arith, h.2)

    back : (t o : RelSet) → IsBelow all (n + 1) t o → IsBelowOr all n most t o
    back t o (inl h) = inl (inl h)
    back t o (inr h) = elim (below-or-is h.2 n h.3) [
      | inl lt ↦ inl (inr (h.0, h.1, h.2, lt, h.4))
      | inr same ↦ let le = h.1 in inr (h.0, omega (arith, le, is), subst (λ (r : ℕ). IsSameSet (has t.0) (one r)) same h.4)
    ]

-- what holds of each two of some items holds of what they stand for
pub pairs-mapped : (f : Costed → Path) (R : Path → Path → Type 0) (xs : List Costed) → AllPairs (λ a b. R (f a) (f b)) xs → AllPairs R (map f xs)
pairs-mapped f R [] h = λ i j d lt within. absurd (omega (arith, within))
pairs-mapped f R (x ∷ xs) h = λ i j d lt within. at i j d lt within
  where
    at : (i j : ℕ) (d : Path) → i < j → j < length (map f (x ∷ xs)) → R (get_or (map f (x ∷ xs)) i d) (get_or (map f (x ∷ xs)) j d)
    at i j d lt within =
        let long = length-map (x ∷ xs) f in
        let low : j < length (x ∷ xs) = omega (arith, long, within) in
        let less : i < length (x ∷ xs) = omega (arith, lt, low) in
        subst₂ R (sym (get_or-map f (x ∷ xs) i x d less)) (sym (get_or-map f (x ∷ xs) j x d low)) (h i j x lt low)
