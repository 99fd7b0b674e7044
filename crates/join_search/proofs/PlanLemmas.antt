-- Kept paths as sides of joins, and the sets of which they are.
use Rattle.std.proofs.Common.{◌≡◌, ℕ, Bool, true, false, ◌||◌, refl, sym, ◌∙◌, ap, ap₂, subst}
use Rattle.std.specs.Prelude.{None}
use Rattle.std.proofs.lemmas.Bool.{eq-eqb, false≢true}
use Rattle.std.proofs.lemmas.List.Elements.{All-contains}
use Rattle.pg_base.specs.Sets.{has}
use Rattle.pg_base.proofs.SetLaws.{has-zero, none-zero}
use Rattle.pg_base.specs.declared.rel_set.RelSet.{RelSet}
use Rattle.catalog.specs.Contents.{Contents}
use Rattle.eq_classes.specs.Clauses.{Set}
use Rattle.eq_classes.specs.Holding.{AreApart}
use Rattle.sql_query.specs.Queries.{Query}
use Rattle.path_cost.specs.Estimates.{set_rows}
use Rattle.plan_tree.specs.Plans.{Plan, seq, index, index_only, bitmap, sort, nest, merge, given_scan, param_of, set_of}
use Rattle.plan_tree.specs.Costs.{estimate, rows_given}
use Rattle.plan_tree.specs.work.Paths.{Path}
use Rattle.plan_tree.specs.Space.{IsEmpty, IsSameSet}
use Rattle.plan_tree.proofs.LikeLemmas.{given-like}
use Rattle.join_search.specs.work.Tables.{Fronts, none}
use Rattle.join_search.specs.work.Joins.{ArePlaced, AreJoinsCovered, IsKept, IsPathAt, IsPlanIn, IsSideIn, IsSideKept}
use Rattle.join_search.specs.work.Offers.{AreJoinsServed}
use Rattle.join_search.specs.work.Splits.{IsDivided}
use Rattle.join_search.specs.declared.useful.Asked.{Asked}
use Rattle.join_search.proofs.TableLemmas.{same-number}
use Rattle.plan_tree.proofs.SetLemmas.{reads-some}
use Rattle.plan_tree.proofs.SetLemmas.{sets-same}
use Rattle.plan_tree.proofs.GivenLemmas.{given-none}

or-self : (b : Bool) → b ≡ b || b
or-self true = refl
or-self false = refl

module _ (c : Contents) (q : Query) where
  -- the rows of such a plan are those of its set
  pub whole-rows : (a : RelSet) (t : Plan) → IsSameSet (has a.0) (set_of t) → IsEmpty (param_of t) → set_rows c q.range q.classes (has a.0) ≡ estimate c q t
  whole-rows a t same none = ap₂ (rows_given c q) (sets-same (has a.0) (set_of t) same) (sym (given-none t none))

  -- a path stands at the set that its plan reads, and at its parameterisation
  pub at-set : (s p : RelSet) (x : Path) → IsPathAt c q s p x → IsSameSet (has s.0) (set_of x.tree)
  at-set s p x h = λ k. sym (ap (λ (t : RelSet). has t.0 k) h.set) ∙ h.is_path.numbers.set k

  pub at-param : (s p : RelSet) (x : Path) → IsPathAt c q s p x → IsSameSet (has p.0) (param_of x.tree)
  at-param s p x h = λ k. sym (ap (λ (t : RelSet). has t.0 k) h.param) ∙ h.is_path.numbers.param k

  pub at-none : (s : RelSet) (x : Path) → IsPathAt c q s none x → IsEmpty (param_of x.tree)
  at-none s x h = λ k. sym (at-param s none x h k) ∙ has-zero k

  -- a kept plan stands at some set and parameterisation
  record Stands (fronts : Fronts) (t : Plan) : Type 0 where
    set : RelSet
    param : RelSet
    is_there : IsPlanIn (fronts set param) t
    reads : IsSameSet (has set.0) (set_of t)
    given : IsSameSet (has param.0) (param_of t)

  stands : (fronts : Fronts) (t : Plan) → ArePlaced c q fronts → IsKept fronts t → Stands fronts t
  stands fronts t placed k =
      let x = k.plan.path in
      let h = All-contains (IsPathAt c q k.set k.param) (fronts k.set k.param) x (placed.paths k.set k.param) k.plan.is_there in
      record {
        set = k.set;
        param = k.param;
        is_there = k.plan;
        reads = λ n. at-set k.set k.param x h n ∙ ap (λ (u : Plan). set_of u n) k.plan.is_plan;
        given = λ n. at-param k.set k.param x h n ∙ ap (λ (u : Plan). param_of u n) k.plan.is_plan;
      }

  -- a kept plan that is given no rows stands at the parameterisation without relations
  whole-there : (fronts : Fronts) (t : Plan) (s : Stands fronts t) → IsEmpty (param_of t) → IsPlanIn (fronts s.set none) t
  whole-there fronts t s whole =
      subst (λ p. IsPlanIn (fronts s.set p) t) (same-number s.param none (none-zero s.param.0 (λ k. s.given k ∙ whole k))) s.is_there

  record StandsAside (fronts : Fronts) (t : Plan) : Type 0 where
    set : RelSet
    reads : IsSameSet (has set.0) (set_of t)
    side : IsSideIn (fronts set none) t

  plain-aside : (fronts : Fronts) (t : Plan) → ArePlaced c q fronts → IsKept fronts t → IsEmpty (param_of t) → (s : RelSet) × IsSameSet (has s.0) (set_of t) × IsPlanIn (fronts s none) t
  plain-aside fronts t placed k whole =
      let s = stands fronts t placed k in
      (s.set, s.reads, whole-there fronts t s whole)

  aside : (fronts : Fronts) (t : Plan) → ArePlaced c q fronts → IsSideKept fronts t → IsEmpty (param_of t) → StandsAside fronts t
  aside fronts (sort keys input) placed k whole = let s = plain-aside fronts input placed k whole in record { set = s.0; reads = s.1; side = s.2 }
  aside fronts (seq r) placed k whole = let s = plain-aside fronts (seq r) placed k whole in record { set = s.0; reads = s.1; side = s.2 }
  aside fronts (index r i backward p) placed k whole = let s = plain-aside fronts (index r i backward p) placed k whole in record { set = s.0; reads = s.1; side = s.2 }
  aside fronts (index_only r i backward p) placed k whole = let s = plain-aside fronts (index_only r i backward p) placed k whole in record { set = s.0; reads = s.1; side = s.2 }
  aside fronts (bitmap r p bits) placed k whole = let s = plain-aside fronts (bitmap r p bits) placed k whole in record { set = s.0; reads = s.1; side = s.2 }
  aside fronts (nest o i) placed k whole = let s = plain-aside fronts (nest o i) placed k whole in record { set = s.0; reads = s.1; side = s.2 }
  aside fronts (merge keys o i) placed k whole = let s = plain-aside fronts (merge keys o i) placed k whole in record { set = s.0; reads = s.1; side = s.2 }

  -- the sets of the sides of a join of a set divide it
  sides-divide : (s a b : RelSet) (o i : Plan) → IsSameSet (λ k. set_of o k || set_of i k) (has s.0) → AreApart (set_of o) (set_of i) → IsSameSet (has a.0) (set_of o) → IsSameSet (has b.0) (set_of i) → IsDivided s a b
  sides-divide s a b o i all apart reads reads' = record {
    outer = λ never. let h = reads-some o in false≢true (sym (never h.0) ∙ reads h.0 ∙ h.1);
    inner = λ never. let h = reads-some i in false≢true (sym (never h.0) ∙ reads' h.0 ∙ h.1);
    apart = λ k is. reads' k ∙ apart k (sym (reads k) ∙ is);
    all = λ k. sym (all k) ∙ ap₂ (λ x y. x || y) (sym (reads k)) (sym (reads' k));
  }

  -- where the joins of each division of a set are served, the joins of kept paths of the set are covered
  pub all-covered : (asked : Asked) (fronts : Fronts) (s : RelSet) → ArePlaced c q fronts → ((a b : RelSet) → IsDivided s a b → AreJoinsServed c q asked fronts (fronts s none) a b) → AreJoinsCovered c q asked fronts s
  all-covered asked fronts s placed served (nest o i) of below kept =
      let x = stands fronts o placed kept.0 in
      let y = stands fronts i placed kept.1 in
      let n = of.built.2 in
      let d = sides-divide s x.set y.set o i of.set_is n.sides.apart x.reads y.reads in
      (served x.set y.set d).nests y.param o i (whole-there fronts o x n.sides.outer_whole) y.is_there of.built below
  all-covered asked fronts s placed served (merge keys o i) of below kept =
      let n = of.built.2 in
      let x = aside fronts o placed kept.0 n.sides.outer_whole in
      let y = aside fronts i placed kept.1 n.inner_whole in
      let d = sides-divide s x.set y.set o i of.set_is n.sides.apart x.reads y.reads in
      (served x.set y.set d).merges keys o i x.side y.side of.built below
  all-covered asked fronts s placed served (seq r) of below kept = absurd kept
  all-covered asked fronts s placed served (index r i backward p) of below kept = absurd kept
  all-covered asked fronts s placed served (index_only r i backward p) of below kept = absurd kept
  all-covered asked fronts s placed served (bitmap r p bits) of below kept = absurd kept
  all-covered asked fronts s placed served (sort keys input) of below kept = absurd kept
