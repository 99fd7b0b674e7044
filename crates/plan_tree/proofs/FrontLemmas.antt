-- What a front of paths has after an offer.
use Rattle.std.proofs.Common.{◌≡◌, ◌⊎◌, zero, suc, Bool, true, List, [], ◌∷◌, map, inl, inr, refl, sym, ◌∙◌, ap, subst, arith, Result, Ok, Err, OnOk, IfErr}
use Rattle.std.specs.Prelude.{All, Contains}
use Rattle.std.proofs.lemmas.List.Elements.{All-map, All-weaker, All-contains, All-contains_itself, Contains-append_right}
use Rattle.pareto.specs.work.Front.{AreKeptOr, IsCovered}
use Rattle.sql_query.specs.catalog_Contents.{Contents}
use Rattle.eq_classes.specs.Clauses.{Set}
use Rattle.sql_query.specs.Queries.{Query}
use Rattle.plan_tree.specs.Plans.{Plan}
use Rattle.plan_tree.specs.Space.{IsPlanOf}
use Rattle.plan_tree.specs.Least.{IsAdmissible, Dominates}
use Rattle.plan_tree.specs.work.Paths.{Path, IsPathOf}
use Rattle.plan_tree.specs.work.Fronts.{AreOldOrOffers, ArePathsOf, HasDominating, IsOffer, StayDominated}
use Rattle.plan_tree.specs.work.Views.{is_path_at_most, path}
use Rattle.plan_tree.specs.work.Ranks.{at-most-refl}
use Rattle.plan_tree.specs.declared.path.Path.{Path as Costed}
use Rattle.plan_tree.proofs.AtMostLemmas.{at-most-dominates}
use Rattle.plan_tree.proofs.DominationLemmas.{dominates-trans}

module _ {A B : Type 0} (f : A → B) where
  pub contains-mapped : (xs : List A) (x : A) → Contains xs x → Contains (map f xs) (f x)
  contains-mapped [] x h = absurd (omega (arith, h.1))
  contains-mapped (y ∷ xs) x (zero, lt, e) = (0, omega arith, ap f e)
  contains-mapped (y ∷ xs) x (suc k, lt, e) = Contains-append_right (f y ∷ []) (map f xs) (f x) (contains-mapped xs x (k, omega arith, e))

  pub contains-source : (xs : List A) (y : B) → Contains (map f xs) y → (x : A) × Contains xs x × (f x ≡ y)
  contains-source [] y h = absurd (omega (arith, h.1))
  contains-source (x ∷ xs) y (zero, lt, e) = (x, (0, omega arith, refl), e)
  contains-source (x ∷ xs) y (suc k, lt, e) =
      let h = contains-source xs y (k, omega arith, e) in
      (h.0, Contains-append_right (x ∷ []) xs h.0 h.1, h.2)

  pub all-sources : (P : B → Type 0) (xs : List A) → All P (map f xs) → All (λ x. P (f x)) xs
  all-sources P xs h = All-weaker (Contains xs) (λ x. P (f x)) (λ x at. All-contains P (map f xs) (f x) h (contains-mapped xs x at)) xs (All-contains_itself xs)

-- a front that stays as it is covers what it has
pub covers-itself : (xs : List Costed) → All (IsCovered is_path_at_most xs) xs
covers-itself xs = All-weaker (Contains xs) (IsCovered is_path_at_most xs) (λ x h. record { by' = x; is_kept = h; covers = at-most-refl (path x) }) xs (All-contains_itself xs)

pub keeps-itself : (xs : List Costed) (made : Costed) → AreKeptOr xs made xs
keeps-itself xs made = All-weaker (Contains xs) (λ x. Contains xs x ⊎ (x ≡ made)) (λ x h. inl h) xs (All-contains_itself xs)

-- an offer, also a refused one
pub kept-after : (r : Result (Unit {0}) Costed) (old new : List Costed) (made : Costed) → OnOk r (AreKeptOr old made new) → IfErr r (λ back. (back ≡ made) × (new ≡ old)) → AreKeptOr old made new
kept-after (Ok u) old new made h e = h
kept-after (Err b) old new made h e = subst (λ xs. AreKeptOr old made xs) (sym e.1) (keeps-itself old made)

pub covered-after : (r : Result (Unit {0}) Costed) (old new : List Costed) (made : Costed) → OnOk r (All (IsCovered is_path_at_most new) old) → IfErr r (λ back. (back ≡ made) × (new ≡ old)) → All (IsCovered is_path_at_most new) old
covered-after (Ok u) old new made h e = h
covered-after (Err b) old new made h e = subst (λ xs. All (IsCovered is_path_at_most xs) old) (sym e.1) (covers-itself old)

module _ (c : Contents) (q : Query) where
  -- a front of paths stays as it is
  pub old-stay : (test : Plan → Bool) (set param : Set) (ps : List Path) → AreOldOrOffers c q test set param ps ps
  old-stay test set param ps = All-weaker (Contains ps) (λ p. Contains ps p ⊎ IsOffer c q test set param p) (λ p h. inl h) ps (All-contains_itself ps)

  module _ (old new : List Costed) (made : Costed) (kept : AreKeptOr old made new) (before : ArePathsOf c q (map path old)) (is : IsPathOf c q (path made)) where
    pub paths-after : ArePathsOf c q (map path new)
    paths-after = All-map (IsPathOf c q) path new (All-weaker (λ x. Contains old x ⊎ (x ≡ made)) (λ x. IsPathOf c q (path x)) one new kept)
      where
        one : (x : Costed) → Contains old x ⊎ (x ≡ made) → IsPathOf c q (path x)
        one x (inl h) = All-contains (IsPathOf c q) (map path old) (path x) before (contains-mapped path old x h)
        one x (inr e) = subst (λ y. IsPathOf c q (path y)) (sym e) is

    pub offers-after : (t : Plan) (set param : Set) (test : Plan → Bool) → (path made).tree ≡ t → IsPlanOf c q set param t → IsAdmissible c q t → test t ≡ true → AreOldOrOffers c q test set param (map path old) (map path new)
    offers-after t set param test same of admissible passes =
        All-map (λ p. Contains (map path old) p ⊎ IsOffer c q test set param p) path new
        (All-weaker (λ x. Contains old x ⊎ (x ≡ made)) (λ x. Contains (map path old) (path x) ⊎ IsOffer c q test set param (path x)) one new kept)
      where
        offer : IsOffer c q test set param (path made)
        offer = record {
          plan = subst (IsPlanOf c q set param) (sym same) of;
          admissible = subst (IsAdmissible c q) (sym same) admissible;
          passes = ap test same ∙ passes;
          is_path = is;
        }

        one : (x : Costed) → Contains old x ⊎ (x ≡ made) → Contains (map path old) (path x) ⊎ IsOffer c q test set param (path x)
        one x (inl h) = inl (contains-mapped path old x h)
        one x (inr e) = inr (subst (λ y. IsOffer c q test set param (path y)) (sym e) offer)

    dominating : (x : Costed) (t : Plan) → IsPathOf c q (path x) → (path x).tree ≡ t → IsCovered is_path_at_most new x → HasDominating c q (map path new) t
    dominating x t of same covered =
        let by = covered.by' in
        let one = All-contains (IsPathOf c q) (map path new) (path by) paths-after (contains-mapped path new by covered.is_kept) in
        record {
          path = path by;
          is_there = contains-mapped path new by covered.is_kept;
          dominates = subst (λ u. Dominates c q (path by).tree u) same (at-most-dominates c q (path by) (path x) one.numbers of.numbers covered.covers);
        }

    pub made-dominated : (t : Plan) → (path made).tree ≡ t → IsCovered is_path_at_most new made → HasDominating c q (map path new) t
    made-dominated t same covered = dominating made t is same covered

    pub still-dominated : All (IsCovered is_path_at_most new) old → StayDominated c q (map path old) (map path new)
    still-dominated covered t h =
        let found = contains-source path old h.path h.is_there in
        let x = found.0 in
        let of = subst (IsPathOf c q) (sym found.2) (All-contains (IsPathOf c q) (map path old) h.path before h.is_there) in
        let there = dominating x h.path.tree of (ap (λ (p : Path). p.tree) found.2) (All-contains (IsCovered is_path_at_most new) old x covered found.1) in
        record {
          path = there.path;
          is_there = there.is_there;
          dominates = dominates-trans c q there.path.tree h.path.tree t there.dominates h.dominates;
        }
