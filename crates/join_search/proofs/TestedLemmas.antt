-- The clauses that a join with an inner path tests, and the operators of joins.
use Rattle.std.proofs.Common.{◌≡◌, ◌<◌, ℕ, Bool, true, false, cond, ◌&&◌, nat_lt, List, length, refl, sym, ◌∙◌, ap, ap₂, arith}
use Rattle.std.specs.Prelude.{Option, Some, None, IfSome}
use Rattle.std.proofs.lemmas.Bool.{eqb-true}
use Rattle.pg_base.specs.Sets.{has}
use Rattle.pg_base.proofs.SetLaws.{has-zero, none-zero, same_set}
use Rattle.pg_base.specs.declared.numbers.RelNo.{RelNo}
use Rattle.pg_base.specs.declared.rel_set.RelSet.{RelSet}
use Rattle.pg_expr.specs.work.AtomSets.{contains}
use Rattle.catalog.specs.Contents.{Contents}
use Rattle.eq_classes.specs.Clauses.{ClassTable, one}
use Rattle.eq_classes.specs.Listing.{clause_at}
use Rattle.eq_classes.specs.Parts.{is_join, is_join_param}
use Rattle.sql_query.specs.Queries.{Query, width}
use Rattle.plan_tree.specs.work.Paths.{Path}
use Rattle.plan_tree.specs.Plans.{Plan, seq, index, index_only, bitmap, sort, nest, merge, GivenScan, given_scan, is_empty, joins_with, param_in, param_of, set_of}
use Rattle.plan_tree.specs.work.Reads.{IsOverTables}
use Rattle.plan_tree.specs.Space.{IsSameSet}
use Rattle.plan_tree.proofs.PathLemmas.{built-below}
use Rattle.plan_tree.proofs.GivenLemmas.{read-below}
use Rattle.join_search.specs.work.Nests.{AreTested, IsInner}
use Rattle.join_search.specs.declared.splits.Split.{Split}
use Rattle.join_search.proofs.PlanLemmas.{at-param, at-set}
use Rattle.plan_tree.proofs.GivenLemmas.{given-none, given-one}
use Rattle.plan_tree.proofs.SetLemmas.{sets-same}
use Rattle.plan_tree.proofs.GivenLemmas.{scan-one}

pub given-some : (t : Plan) (r : RelNo) (p : RelSet) → IsSameSet (has p.0) (param_of t) → (p.0 ≡ 0 → ⊥) → set_of t r.0 ≡ true → given_scan t ≡ Some (record { relation = r; param = p })
given-some t r p params some reads = by (given_scan t) params (given-one t)
  where
    by : (g : Option GivenScan) → IsSameSet (has p.0) (param_in g) → IfSome g (λ (s : GivenScan). IsSameSet (set_of t) (one s.relation.0)) → g ≡ Some (record { relation = r; param = p })
    by None same of = absurd (some (none-zero p.0 same))
    by (Some s) same of =
        let rel : s.relation.0 ≡ r.0 = sym (eqb-true r.0 s.relation.0 (sym (of r.0) ∙ reads)) in
        let param : s.param.0 ≡ p.0 = same_set s.param.0 p.0 (λ k. sym (same k)) in
        ap₂ (λ (m n : ℕ). Some (record { relation = record { 0 = m }; param = record { 0 = n } })) rel param

module _ (c : Contents) (q : Query) (j : Split) (x : Path) where
  reads : IsInner c q j x → IsSameSet (has j.inner.0) (set_of x.tree)
  reads h = at-set c q j.inner x.param x h.stands

  -- its relations are those of the query
  pub few-relation : (r : ℕ) → IsOverTables c q → IsInner c q j x → has j.inner.0 r ≡ true → r < 16
  few-relation r over h is =
      let below = read-below (width q) x.tree r (built-below c q x.tree h.stands.is_path.plan.built) (sym (reads h r) ∙ is) in
      omega (arith, below, over.few)

  pub tested-whole : (table : ClassTable) (set : List ℕ) → IsInner c q j x → x.param.0 ≡ 0 → table ≡ q.classes →
      ((k : ℕ) → contains set k ≡ nat_lt k (length table.clauses) && is_join (has j.outer.0) (has j.inner.0) (clause_at table.clauses k)) → AreTested q j.outer x.tree set
  tested-whole table set h zero same tested =
      let whole : given_scan x.tree ≡ None = given-none x.tree (λ k. sym (at-param c q j.inner x.param x h.stands k) ∙ ap (λ n. has n k) zero ∙ has-zero k) in
      let as-set : has j.inner.0 ≡ set_of x.tree = sets-same (has j.inner.0) (set_of x.tree) (reads h) in
      let none : None ≡ given_scan x.tree = sym whole in
      λ k. tested k ∙ (λ z. nat_lt k (length (same z).clauses) && joins_with (has j.outer.0) (as-set z) (none z) (clause_at (same z).clauses k))

  pub tested-given : (r : RelNo) (table : ClassTable) (set : List ℕ) → IsInner c q j x → (x.param.0 ≡ 0 → ⊥) → has j.inner.0 r.0 ≡ true → table ≡ q.classes →
      ((k : ℕ) → contains set k ≡ nat_lt k (length table.clauses) && is_join_param (has j.outer.0) r.0 (has x.param.0) (clause_at table.clauses k)) → AreTested q j.outer x.tree set
  tested-given r table set h some is same tested =
      let scan : Some (record { relation = r; param = x.param }) ≡ given_scan x.tree =
      sym (given-some x.tree r x.param (at-param c q j.inner x.param x h.stands) some (sym (reads h r.0) ∙ is)) in
      λ k. tested k ∙ (λ z. nat_lt k (length (same z).clauses) && joins_with (has j.outer.0) (set_of x.tree) (scan z) (clause_at (same z).clauses k))
