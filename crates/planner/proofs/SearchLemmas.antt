-- The fronts of a search dominate each admissible plan: their paths are closed under joins.
use Rattle.std.proofs.Common.{◌≡◌, ◌<◌, ◌*◌, ◌%◌, ◌^◌, arith, suc, ℕ, true, ◌||◌, refl, sym, ◌∙◌, ap, ap₂, subst, subst₂, bit_or, true≢false}
use Rattle.std.specs.Prelude.{All, Contains}
use Rattle.std.proofs.lemmas.List.Elements.{All-contains, All-weaker}
use Rattle.pg_base.specs.Sets.{has}
use Rattle.pg_base.specs.declared.numbers.RelNo.{RelNo}
use Rattle.pg_base.specs.declared.rel_set.RelSet.{RelSet}
use Rattle.pg_base.proofs.SetLaws.{has-one_wide, has-or, has-zero, same_set}
use Rattle.catalog.specs.Contents.{Contents}
use Rattle.eq_classes.specs.Clauses.{one}
use Rattle.sql_query.specs.Queries.{Query, all_of_query, width}
use Rattle.plan_tree.specs.work.Costs.{HaveRows}
use Rattle.plan_tree.specs.Plans.{Plan, seq, index, index_only, bitmap, sort, nest, merge, empty, set_of}
use Rattle.plan_tree.specs.Space.{IsBuilt, IsPlanOf, IsSameSet}
use Rattle.plan_tree.specs.work.Paths.{Path}
use Rattle.scan_paths.proofs.SpaceLemmas.{given-param}
use Rattle.join_search.specs.plan_laws_Closed.{AreKeptSides, IsKeptSide, is_scan}
use Rattle.join_search.specs.plan_laws_Useful.{HasEnough, IsBelow, IsClosedBelow, Suffices}
use Rattle.join_search.specs.plan_laws_UsefulLemmas.{enough}
use Rattle.join_search.specs.work.Joins.{ArePlaced, AreJoinsCovered, IsKept, IsPathAt, IsSideKept}
use Rattle.join_search.specs.work.Sufficing.{HasSufficient}
use Rattle.join_search.specs.work.Tables.{Fronts, none}
use Rattle.join_search.specs.declared.useful.Asked.{Asked}
use Rattle.join_search.proofs.OfferLemmas.{dominating-serves}
use Rattle.planner.specs.work.Bases.{HaveScansOf}
use Rattle.planner.specs.work.Finishing.{AreCandidates, IsWhole}
use Rattle.join_search.proofs.TableLemmas.{same-number as same_number}

module _ (c : Contents) (q : Query) (fronts : Fronts) (placed : ArePlaced c q fronts) where
  whole-path : (all : RelSet) → IsSameSet (has all.0) (all_of_query q) → (x : Path) → IsPathAt c q all none x → IsWhole c q x
  whole-path all is_all x h = record {
    plan = record {
      built = h.is_path.plan.built;
      plain = h.is_path.plan.plain;
      set_is = λ k. h.is_path.plan.set_is k ∙ ap (λ (s : RelSet). has s.0 k) h.set ∙ is_all k;
      param_is = λ k. h.is_path.plan.param_is k ∙ ap (λ (p : RelSet). has p.0 k) h.param ∙ has-zero k;
    };
    admissible = h.admissible;
    numbers = h.is_path.numbers;
  }

  -- paths of all relations
  pub whole-paths : (all : RelSet) → IsSameSet (has all.0) (all_of_query q) → All (IsWhole c q) (fronts all none)
  whole-paths all is_all = All-weaker (IsPathAt c q all none) (IsWhole c q) (whole-path all is_all) (fronts all none) (placed.paths all none)

  -- a kept plan is of the set and the parameterisation of its front
  kept-plan : (t : Plan) (k : IsKept fronts t) → IsPlanOf c q (has k.set.0) (has k.param.0) t
  kept-plan t k =
      let x = k.plan.path in
      let at = All-contains (IsPathAt c q k.set k.param) (fronts k.set k.param) x (placed.paths k.set k.param) k.plan.is_there in
      subst (IsPlanOf c q (has k.set.0) (has k.param.0)) k.plan.is_plan
      (subst (λ s. IsPlanOf c q (has s.0) (has k.param.0) x.tree) at.set
      (subst (λ p. IsPlanOf c q (has x.set.0) (has p.0) x.tree) at.param at.is_path.plan))

  -- the set of a side of a join
  abbrev HasSet : Plan → Type 0
  HasSet t = (s : RelSet) × IsSameSet (set_of t) (has s.0)

  kept-set : (t : Plan) → IsKept fronts t → HasSet t
  kept-set t k = (k.set, (kept-plan t k).set_is)

  side-set : (t : Plan) → IsKeptSide c q (IsKept fronts) t → HasSet t
  side-set (seq r) k = kept-set (seq r) k
  side-set (index r i backward p) k = kept-set (index r i backward p) k
  side-set (index_only r i backward p) k = kept-set (index_only r i backward p) k
  side-set (bitmap r p bits) k = kept-set (bitmap r p bits) k
  side-set (sort keys input) k = kept-set input k
  side-set (nest outer inner) k = kept-set (nest outer inner) k
  side-set (merge keys outer inner) k = kept-set (merge keys outer inner) k

  side-kept : (t : Plan) → IsKeptSide c q (IsKept fronts) t → IsSideKept fronts t
  side-kept (seq r) k = k
  side-kept (index r i backward p) k = k
  side-kept (index_only r i backward p) k = k
  side-kept (bitmap r p bits) k = k
  side-kept (sort keys input) k = k
  side-kept (nest outer inner) k = k
  side-kept (merge keys outer inner) k = k

  both : (o i : Plan) → HasSet o → HasSet i → (s : RelSet) × ((k : ℕ) → set_of o k || set_of i k ≡ has s.0 k)
  both o i a b =
      let s : RelSet = record { 0 = bit_or (a.0).0 (b.0).0 } in
      (s, λ k. ap₂ (λ x y. x || y) (a.1 k) (b.1 k) ∙ sym (has-or (a.0).0 (b.0).0 k))

  module _ (asked : Asked) where
    abbrev IsMet : Plan → Type 0
    IsMet t = HasEnough c q asked.every_key (IsKept fronts) asked.limit t

    sufficient-kept : (s p : RelSet) (t : Plan) → HasSufficient c q asked (fronts s p) t → IsMet t
    sufficient-kept s p t h = record {
      by' = h.path.tree;
      is_kept = record { set = s; param = p; plan = record { path = h.path; is_there = h.is_there; is_plan = refl } };
      suffices = h.suffices;
    }

    module _ (covered : (s : RelSet) → AreJoinsCovered c q asked fronts s) where
      joins-met : (t : Plan) → AreKeptSides c q (IsKept fronts) t → IsBuilt c q t → IsBelow c q asked.limit t → IsMet t
      joins-met (nest o i) sides built below =
          let s = both o i (kept-set o sides.0) (kept-set i sides.1) in
          sufficient-kept s.0 none (nest o i) (covered s.0 (nest o i) (record { built = built; plain = refl; set_is = s.1; param_is = λ k. refl }) below sides)
      joins-met (merge keys o i) sides built below =
          let s = both o i (side-set o sides.0) (side-set i sides.1) in
          sufficient-kept s.0 none (merge keys o i)
          (covered s.0 (merge keys o i) (record { built = built; plain = refl; set_is = s.1; param_is = λ k. refl }) below (side-kept o sides.0, side-kept i sides.1))
      joins-met (seq r) sides built below = absurd sides
      joins-met (index r i backward p) sides built below = absurd sides
      joins-met (index_only r i backward p) sides built below = absurd sides
      joins-met (bitmap r p bits) sides built below = absurd sides
      joins-met (sort keys input) sides built below = absurd sides

      module _ (scans : (r : ℕ) → r < width q → HaveScansOf c q fronts r) where
        scan-met : (r : RelNo) (p : RelSet) (t : Plan) → r.0 < width q → IsPlanOf c q (one r.0) (has p.0) t → IsBelow c q asked.limit t → IsMet t
        scan-met r p t lt of below =
            let s : RelSet = record { 0 = 1 * 2 ^ r.0 % 2 ^ suc r.0 } in
            sufficient-kept s p t (dominating-serves c q asked (fronts s p) t ((scans r.0 lt).dominated s p (λ k. has-one_wide (suc r.0) r.0 k (omega arith)) t of below.admissible refl))

        scans-met : (t : Plan) → is_scan t ≡ true → IsBuilt c q t → IsBelow c q asked.limit t → IsMet t
        scans-met (seq r) e built below =
            scan-met r none (seq r) built (record { built = built; plain = refl; set_is = λ k. refl; param_is = λ k. sym (has-zero k) }) below
        scans-met (index r i backward p) e built below =
            scan-met r p (index r i backward p) built.relation (record { built = built; plain = refl; set_is = λ k. refl; param_is = λ k. given-param r p k }) below
        scans-met (index_only r i backward p) e built below =
            scan-met r p (index_only r i backward p) built.scan.relation (record { built = built; plain = refl; set_is = λ k. refl; param_is = λ k. given-param r p k }) below
        scans-met (bitmap r p bits) e built below =
            scan-met r p (bitmap r p bits) built.relation (record { built = built; plain = refl; set_is = λ k. refl; param_is = λ k. given-param r p k }) below
        scans-met (sort keys input) e built below = absurd (true≢false (sym e))
        scans-met (nest outer inner) e built below = absurd (true≢false (sym e))
        scans-met (merge keys outer inner) e built below = absurd (true≢false (sym e))

        pub closed : IsClosedBelow c q asked.every_key (IsKept fronts) asked.limit
        closed = record {
          built = λ t k. (kept-plan t k).built;
          plain = λ t k. (kept-plan t k).plain;
          scans = scans-met;
          joins = joins-met;
        }

        module _ (some : HaveRows c q) (all : RelSet) (is_all : IsSameSet (has all.0) (all_of_query q)) where
          whole-enough : (t : Plan) → IsPlanOf c q (all_of_query q) empty t → IsBelow c q asked.limit t → HasSufficient c q asked (fronts all none) t
          whole-enough t of below =
              let u = enough c q asked.every_key (IsKept fronts) asked.limit some closed t of.built of.plain below in
              let k = u.is_kept in
              let at = kept-plan u.by' k in
              let set : k.set ≡ all = same_number k.set all (same_set k.set.0 all.0 (λ n. sym (at.set_is n) ∙ u.suffices.like.set n ∙ of.set_is n ∙ sym (is_all n))) in
              let param : k.param ≡ none = same_number k.param none (same_set k.param.0 0 (λ n. sym (at.param_is n) ∙ u.suffices.like.param n ∙ of.param_is n ∙ sym (has-zero n))) in
              record {
                path = k.plan.path;
                is_there = subst₂ (λ s p. Contains (fronts s p) k.plan.path) set param k.plan.is_there;
                suffices = subst (λ o. Suffices c q asked.every_key o t) (sym k.plan.is_plan) u.suffices;
              }

          -- the paths of all relations are those that a plan is chosen of
          pub candidates : AreCandidates c q asked (fronts all none)
          candidates = record {
            whole = whole-paths all is_all;
            enough = whole-enough;
          }
