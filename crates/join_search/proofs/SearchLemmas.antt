-- A table with the front of one more set.
use Rattle.std.proofs.Common.{◌≡◌, ◌⊎◌, ◌<◌, ◌≤◌, ℕ, suc, ◌+◌, ◌^◌, Bool, true, false, nat_eq, List, [], ◌∷◌, map, inl, inr, refl, sym, ◌∙◌, ap, subst, subst₂, arith}
use Rattle.std.specs.Prelude.{All, AllPairs, Contains, Option, Some, None}
use Rattle.std.proofs.lemmas.Bool.{eq-eqb, eqb-true, true≢false}
use Rattle.std.proofs.lemmas.Bool.Decides.{nat_tests}
use Rattle.std.proofs.lemmas.List.Elements.{All-contains, All-contains_itself, All-head, All-map, All-nil, All-tail, All-weaker}
use Rattle.std.proofs.lemmas.List.Kept.{AllPairs-cons}
use Rattle.pareto.specs.work.Front as pareto
use Rattle.pareto.specs.work.Front.{Unrelated}
use Rattle.pg_base.specs.declared.rel_set.RelSet.{RelSet}
use Rattle.catalog.specs.Contents.{Contents}
use Rattle.sql_query.specs.Queries.{Query, width}
use Rattle.plan_tree.specs.Plans.{Plan, seq, index, index_only, bitmap, sort, nest, merge}
use Rattle.plan_tree.specs.work.Fronts.{StayDominated}
use Rattle.plan_tree.specs.Least.{Dominates}
use Rattle.plan_tree.specs.work.Paths.{Path, IsPathOf}
use Rattle.plan_tree.specs.work.Views.{is_path_at_most, path}
use Rattle.plan_tree.specs.declared.path.Path.{Path as Costed}
use Rattle.plan_tree.proofs.AtMostLemmas.{dominates-at-most}
use Rattle.plan_tree.proofs.FrontLemmas.{contains-mapped, contains-source, still-dominated}
use Rattle.plan_tree.proofs.PathLemmas.{built-below}
use Rattle.join_search.specs.work.Tables.{Fronts, IsSamePlace, front_at, none, paths_at, paths_of}
use Rattle.join_search.specs.work.Joins.{AreUndominated, IsBase, AreJoinsCovered, IsJoinOfKept, IsJoinPath, IsKept, IsPathAt, IsSideKept, IsSingle}
use Rattle.join_search.specs.work.Offers.{AreJoinsServed, AreMergesServed, AreNestsServed}
use Rattle.join_search.specs.work.Search.{IsDone}
use Rattle.join_search.specs.work.Splits.{IsDivided}
use Rattle.join_search.specs.work.Sufficing.{StaySufficient}
use Rattle.join_search.specs.declared.useful.Asked.{Asked}
use Rattle.join_search.specs.declared.table.Table.{Table}
use Rattle.join_search.proofs.ItemLemmas.{not-contained, plan-of-none, side-of-none}
use Rattle.join_search.proofs.MergeLemmas.{merges-later}
use Rattle.join_search.proofs.NestLemmas.{nests-later}
use Rattle.join_search.proofs.OfferLemmas.{paths-there}
use Rattle.join_search.proofs.PlanLemmas.{all-covered}
use Rattle.join_search.proofs.SetLemmas.{divided-not-single, inner-less, outer-less, set-below}
use Rattle.plan_tree.proofs.GivenLemmas.{read-below}
use Rattle.join_search.proofs.TableLemmas.{same-number}

both-or-not : (a b m n : ℕ) (x y : Bool) → nat_eq a m ≡ x → nat_eq b n ≡ y → ((a ≡ m) × (b ≡ n)) ⊎ (((a ≡ m) × (b ≡ n)) → ⊥)
both-or-not a b m n true true e f = inl (eqb-true a m e, eqb-true b n f)
both-or-not a b m n false y e f = inr (λ h. true≢false (sym (eq-eqb a m h.0) ∙ e))
both-or-not a b m n true false e f = inr (λ h. true≢false (sym (eq-eqb b n h.1) ∙ f))

pub same-or-not : (s p t o : RelSet) → IsSamePlace s p t o ⊎ (IsSamePlace s p t o → ⊥)
same-or-not s p t o = both-or-not s.0 p.0 t.0 o.0 (nat_eq s.0 t.0) (nat_eq p.0 o.0) refl refl

-- what is kept in the one is kept in the other
module _ (F G : Fronts) (more : (s p : RelSet) (x : Path) → Contains (F s p) x → Contains (G s p) x) where
  kept-more : (t : Plan) → IsKept F t → IsKept G t
  kept-more t k = record { set = k.set; param = k.param; plan = record { path = k.plan.path; is_there = more k.set k.param k.plan.path k.plan.is_there; is_plan = k.plan.is_plan } }

  side-more : (t : Plan) → IsSideKept F t → IsSideKept G t
  side-more (sort keys input) k = kept-more input k
  side-more (seq r) k = kept-more (seq r) k
  side-more (index r i backward p) k = kept-more (index r i backward p) k
  side-more (index_only r i backward p) k = kept-more (index_only r i backward p) k
  side-more (bitmap r p bits) k = kept-more (bitmap r p bits) k
  side-more (nest o i) k = kept-more (nest o i) k
  side-more (merge keys o i) k = kept-more (merge keys o i) k

  joins-more : (t : Plan) → IsJoinOfKept F t → IsJoinOfKept G t
  joins-more (nest o i) k = (kept-more o k.0, kept-more i k.1)
  joins-more (merge keys o i) k = (side-more o k.0, side-more i k.1)
  joins-more (seq r) k = absurd k
  joins-more (index r i backward p) k = absurd k
  joins-more (index_only r i backward p) k = absurd k
  joins-more (bitmap r p bits) k = absurd k
  joins-more (sort keys input) k = absurd k

  paths-more : (c : Contents) (q : Query) (s p : RelSet) (ps : List Path) → All (IsJoinPath c q F s p) ps → All (IsJoinPath c q G s p) ps
  paths-more c q s p ps h = All-weaker (IsJoinPath c q F s p) (IsJoinPath c q G s p) (λ x k. record { stands = k.stands; sides = joins-more x.tree k.sides }) ps h

module _ (c : Contents) (q : Query) (asked : Asked) (base before after : Table) (set : RelSet) (front : List Costed) (single : ¬ IsSingle set) (done : IsDone c q asked base before set.0)
    (here : front_at after set none ≡ Some front) (others : (t o : RelSet) → ¬ IsSamePlace t o set none → front_at after t o ≡ front_at before t o)
    (joins : All (IsJoinPath c q (paths_at before) set none) (map path front))
    (served : (a b : RelSet) → IsDivided set a b → AreJoinsServed c q asked (paths_at before) (map path front) a b)
    (undominated : AreUndominated c q (map path front)) where
  at-here : paths_at after set none ≡ map path front
  at-here = ap paths_of here

  elsewhere : (s p : RelSet) → ¬ IsSamePlace s p set none → paths_at after s p ≡ paths_at before s p
  elsewhere s p other = ap paths_of (others s p other)

  empty-before : paths_at before set none ≡ []
  empty-before = ap paths_of (done.later set none (omega arith) single)

  more : (s p : RelSet) (x : Path) → Contains (paths_at before s p) x → Contains (paths_at after s p) x
  more s p x h = by (same-or-not s p set none)
    where
      by : IsSamePlace s p set none ⊎ ¬ IsSamePlace s p set none → Contains (paths_at after s p) x
      by (inl e) = absurd (not-contained (paths_at before set none) x empty-before (subst₂ (λ t o. Contains (paths_at before t o) x) (same-number s set e.0) (same-number p none e.1) h))
      by (inr never) = subst (λ (ps : List Path). Contains ps x) (sym (elsewhere s p never)) h

  -- what holds of the new front and held of the old ones
  holds : (P : RelSet → RelSet → List Path → Type 0) → P set none (map path front) → ((s p : RelSet) → ¬ IsSamePlace s p set none → P s p (paths_at before s p)) → (s p : RelSet) → P s p (paths_at after s p)
  holds P new old s p = by (same-or-not s p set none)
    where
      by : IsSamePlace s p set none ⊎ ¬ IsSamePlace s p set none → P s p (paths_at after s p)
      by (inl e) = subst₂ (λ t o. P t o (paths_at after t o)) (sym (same-number s set e.0)) (sym (same-number p none e.1)) (subst (P set none) (sym at-here) new)
      by (inr never) = subst (P s p) (sym (elsewhere s p never)) (old s p never)

  joins-moved : (s a b : RelSet) (ps : List Path) → a.0 < set.0 → b.0 < set.0 → AreJoinsServed c q asked (paths_at before) ps a b → AreJoinsServed c q asked (paths_at after) ps a b
  joins-moved s a b ps la lb h = record {
    nests = λ p. subst₂ (AreNestsServed c q asked ps) (sym (elsewhere a none (λ e. absurd (omega (arith, la, e.0))))) (sym (elsewhere b p (λ e. absurd (omega (arith, lb, e.0))))) (h.nests p);
    merges = λ keys. subst₂ (λ (x y : List Path). AreMergesServed c q asked ps x y keys) (sym (elsewhere a none (λ e. absurd (omega (arith, la, e.0))))) (sym (elsewhere b none (λ e. absurd (omega (arith, lb, e.0))))) (h.merges keys);
  }

  served-after : (s a b : RelSet) → s.0 < set.0 + 1 → IsDivided s a b → AreJoinsServed c q asked (paths_at after) (paths_at after s none) a b
  served-after s a b lt d = by (same-or-not s none set none)
    where
      by : IsSamePlace s none set none ⊎ ¬ IsSamePlace s none set none → AreJoinsServed c q asked (paths_at after) (paths_at after s none) a b
      by (inl e) =
          let same = same-number s set e.0 in
          let d' = subst (λ t. IsDivided t a b) same d in
          subst (λ t. AreJoinsServed c q asked (paths_at after) (paths_at after t none) a b) (sym same)
          (subst (λ ps. AreJoinsServed c q asked (paths_at after) ps a b) (sym at-here) (joins-moved set a b (map path front) (outer-less set a b d') (inner-less set a b d') (served a b d')))
      by (inr never) =
          let less : s.0 < set.0 = grind (arith, lt, never) in
          subst (λ ps. AreJoinsServed c q asked (paths_at after) ps a b) (sym (elsewhere s none never))
          (joins-moved s a b (paths_at before s none) (omega (arith, outer-less s a b d, less)) (omega (arith, inner-less s a b d, less)) (done.served s a b less d))

  pub done-more : IsDone c q asked base after (set.0 + 1)
  done-more = record {
    handed = λ s p one. others s p (λ e. single (subst IsSingle (same-number s set e.0) one)) ∙ done.handed s p one;
    placed = record { paths = holds (λ s p ps. All (IsPathAt c q s p) ps) (All-weaker (IsJoinPath c q (paths_at before) set none) (IsPathAt c q set none) (λ x k. k.stands) (map path front) joins) (λ s p never. done.placed.paths s p) };
    served = served-after;
    kept = holds (λ s p ps. ¬ IsSingle s → All (IsJoinPath c q (paths_at after) s p) ps) (λ one. paths-more (paths_at before) (paths_at after) more c q set none (map path front) joins)
        (λ s p never one. paths-more (paths_at before) (paths_at after) more c q s p (paths_at before s p) (done.kept s p one));
    undominated = holds (λ s p ps. ¬ IsSingle s → AreUndominated c q ps) (λ one. undominated) (λ s p never one. done.undominated s p one);
    later = λ s p le one. others s p (λ e. absurd (omega (arith, le, e.0))) ∙ done.later s p (omega (arith, le)) one;
  }

module _ (c : Contents) (q : Query) (asked : Asked) (base t : Table) where
  -- a set of one relation is left as it is
  pub done-single : (set : RelSet) → IsSingle set → IsDone c q asked base t set.0 → IsDone c q asked base t (set.0 + 1)
  done-single set one done = record {
    handed = done.handed;
    placed = done.placed;
    served = λ s a b lt d. by s a b lt d (nat_eq s.0 set.0) refl;
    kept = done.kept;
    undominated = done.undominated;
    later = λ s p le one'. done.later s p (omega (arith, le)) one';
  }
    where
      by : (s a b : RelSet) → s.0 < set.0 + 1 → IsDivided s a b → (x : Bool) → nat_eq s.0 set.0 ≡ x → AreJoinsServed c q asked (paths_at t) (paths_at t s none) a b
      by s a b lt d true e = absurd (divided-not-single s a b d (subst IsSingle (sym (same-number s set (eqb-true s.0 set.0 e))) one))
      by s a b lt d false e = done.served s a b (grind (arith, nat_tests, lt, e)) d

  none-else : (o : Option (List Costed)) → ((f : List Costed) → o ≡ Some f → ⊥) → o ≡ None
  none-else None h = refl
  none-else (Some f) h = absurd (h f refl)

-- before the first set
pub done-first : (c : Contents) (q : Query) (asked : Asked) (base : Table) → IsBase c q base → IsDone c q asked base base 1
done-first c q asked base is = record {
  handed = λ s p one. refl;
  placed = is.placed;
  served = λ s a b lt d. absurd (omega (arith, lt, outer-less s a b d));
  kept = λ s p one. subst (All (IsJoinPath c q (paths_at base) s p)) (sym (nothing s p one)) (All-nil (IsJoinPath c q (paths_at base) s p));
  undominated = λ s p one. subst (AreUndominated c q) (sym (nothing s p one)) (λ i j d lt le. absurd (omega (arith, lt, le)));
  later = λ s p le one. absent s p one;
}
  where
    absent : (s p : RelSet) → ¬ IsSingle s → front_at base s p ≡ None
    absent s p one = none-else c q asked base base (front_at base s p) (λ f e. one (is.single s p f e))

    nothing : (s p : RelSet) → ¬ IsSingle s → paths_at base s p ≡ []
    nothing s p one = ap paths_of (absent s p one)

-- of the items of a front none dominates another
module _ (c : Contents) (q : Query) where
  apart : (x y : Costed) → IsPathOf c q (path x) → IsPathOf c q (path y) → Unrelated is_path_at_most x y → ¬ Dominates c q (path x).tree (path y).tree × ¬ Dominates c q (path y).tree (path x).tree
  apart x y h k u = (
    λ d. true≢false (sym (dominates-at-most c q (path x) (path y) h.numbers k.numbers d) ∙ u.0),
    λ d. true≢false (sym (dominates-at-most c q (path y) (path x) k.numbers h.numbers d) ∙ u.1),
  )

  pub undominated-of : (xs : List Costed) → AllPairs (Unrelated is_path_at_most) xs → All (IsPathOf c q) (map path xs) → AreUndominated c q (map path xs)
  undominated-of [] pairs h = λ i j d lt le. absurd (omega (arith, lt, le))
  undominated-of (x ∷ xs) pairs h =
      AllPairs-cons (λ a b. ¬ Dominates c q a.tree b.tree × ¬ Dominates c q b.tree a.tree) (path x) (map path xs)
      (All-map (λ b. ¬ Dominates c q (path x).tree b.tree × ¬ Dominates c q b.tree (path x).tree) path xs
      (All-weaker (Contains xs) (λ (y : Costed). ¬ Dominates c q (path x).tree (path y).tree × ¬ Dominates c q (path y).tree (path x).tree) one xs (All-contains_itself xs)))
      (undominated-of xs (λ i j d lt le. pairs (suc i) (suc j) d (omega (arith, lt)) (omega (arith, le))) (All-tail (IsPathOf c q) (path x) (map path xs) h))
    where
      one : (y : Costed) → Contains xs y → ¬ Dominates c q (path x).tree (path y).tree × ¬ Dominates c q (path y).tree (path x).tree
      one y there =
          apart x y (All-head (IsPathOf c q) (path x) (map path xs) h) (All-contains (IsPathOf c q) (map path xs) (path y) (All-tail (IsPathOf c q) (path x) (map path xs) h) (contains-mapped path xs y there))
          (All-contains (Unrelated is_path_at_most x) xs y (λ k d lt. pairs 0 (suc k) d (omega arith) (omega (arith, lt))) there)

  pub front-undominated : (fronts : Fronts) (s : RelSet) (xs : List Costed) → AllPairs (Unrelated is_path_at_most) xs → All (IsJoinPath c q fronts s none) (map path xs) → AreUndominated c q (map path xs)
  front-undominated fronts s xs pairs h = undominated-of xs pairs (All-weaker (IsJoinPath c q fronts s none) (IsPathOf c q) (λ x k. k.stands.is_path) (map path xs) h)

  -- a front of some of the kept paths that covers each of them
  module _ (set : RelSet) (kept front : List Costed) (some : All (Contains kept) front) (covered : All (pareto.IsCovered is_path_at_most front) kept) (paths : All (IsPathAt c q set none) (map path kept)) where
    pub front-paths : All (Contains (map path kept)) (map path front)
    front-paths = All-map (Contains (map path kept)) path front (All-weaker (Contains kept) (λ x. Contains (map path kept) (path x)) (λ x at. contains-mapped path kept x at) front some)

    pub front-still : StayDominated c q (map path kept) (map path front)
    front-still t h =
        let found = contains-source path kept h.path h.is_there in
        let of = All-contains (IsPathAt c q set none) (map path kept) h.path paths h.is_there in
        still-dominated c q kept front found.0 (All-weaker (Contains kept) (λ x. Contains kept x ⊎ (x ≡ found.0)) (λ x at. inl at) front some)
        (paths-there c q set (map path kept) paths) (subst (IsPathOf c q) (sym found.2) of.is_path) covered t h

  pub some-joins : (fronts : Fronts) (set : RelSet) (kept front : List Path) → All (Contains kept) front → All (IsJoinPath c q fronts set none) kept → All (IsJoinPath c q fronts set none) front
  some-joins fronts set kept front some joins = All-weaker (Contains kept) (IsJoinPath c q fronts set none) (λ x at. All-contains (IsJoinPath c q fronts set none) kept x joins at) front some

module _ (c : Contents) (q : Query) (asked : Asked) where
  pub joins-later : (fronts : Fronts) (old new : List Path) (a b : RelSet) → StayDominated c q old new → AreJoinsServed c q asked fronts old a b → AreJoinsServed c q asked fronts new a b
  joins-later fronts old new a b still h = record {
    nests = λ p. nests-later c q asked old new (fronts a none) (fronts b p) still (h.nests p);
    merges = λ keys. merges-later c q asked old new (fronts a none) (fronts b none) keys still (h.merges keys);
  }

  -- what was served by some paths is by a front that has a sufficient path for each plan for which they have one
  pub joins-enough : (fronts : Fronts) (old new : List Path) (a b : RelSet) → StaySufficient c q asked old new → AreJoinsServed c q asked fronts old a b → AreJoinsServed c q asked fronts new a b
  joins-enough fronts old new a b still h = record {
    nests = λ p o i x y built below. still (nest o i) (h.nests p o i x y built below);
    merges = λ keys o i x y built below. still (merge keys o i) (h.merges keys o i x y built below);
  }

  -- where the outer side has no paths there are no joins
  pub split-none : (fronts : Fronts) (front : List Path) (a b : RelSet) → fronts a none ≡ [] → AreJoinsServed c q asked fronts front a b
  split-none fronts front a b e = record {
    nests = λ p o i x y built below. absurd (plan-of-none (fronts a none) o e x);
    merges = λ keys o i x y built below. absurd (side-of-none (fronts a none) o e x);
  }

  -- nor where the inner side has none
  pub split-bare : (fronts : Fronts) (front : List Path) (a b : RelSet) → ((p : RelSet) → fronts b p ≡ []) → AreJoinsServed c q asked fronts front a b
  split-bare fronts front a b e = record {
    nests = λ p o i x y built below. absurd (plan-of-none (fronts b p) i (e p) y);
    merges = λ keys o i x y built below. absurd (side-of-none (fronts b none) i (e none) y);
  }

  -- one more part of a set
  pub part-more : (fronts : Fronts) (set part : RelSet) (old new : List Path) → StayDominated c q old new → ((a b : RelSet) → a.0 < part.0 → IsDivided set a b → AreJoinsServed c q asked fronts old a b) →
      ((b : RelSet) → IsDivided set part b → AreJoinsServed c q asked fronts new part b) → (a b : RelSet) → a.0 < part.0 + 1 → IsDivided set a b → AreJoinsServed c q asked fronts new a b
  part-more fronts set part old new still before one a b lt d = by (nat_eq a.0 part.0) refl
    where
      by : (x : Bool) → nat_eq a.0 part.0 ≡ x → AreJoinsServed c q asked fronts new a b
      by true e =
          let same = same-number a part (eqb-true a.0 part.0 e) in
          subst (λ t. AreJoinsServed c q asked fronts new t b) (sym same) (one b (subst (λ t. IsDivided set t b) same d))
      by false e = joins-later fronts old new a b still (before a b (grind (arith, nat_tests, lt, e)) d)

  -- after the last set
  pub done-covered : (base t : Table) (n : ℕ) → IsDone c q asked base t n → 2 ^ width q ≤ n → (s : RelSet) → AreJoinsCovered c q asked (paths_at t) s
  done-covered base t n done le s plan of below kept =
      let few : s.0 < 2 ^ width q = set-below s.0 (width q) (λ k is. read-below (width q) plan k (built-below c q plan of.built) (of.set_is k ∙ is)) in
      all-covered c q asked (paths_at t) s done.placed (λ a b d. done.served s a b (omega (arith, few, le)) d) plan of below kept
