-- The clauses that a join with a plan tests, by what the plan reads and is given.
use Rattle.std.proofs.Common.{◌≡◌, ℕ, Bool, true, false, cond, ◌||◌, ◌&&◌, nat_lt, List, length, refl, sym, ◌∙◌, ap, ap₂}
use Rattle.std.specs.Prelude.{Option, Some, None, IfSome}
use Rattle.std.proofs.lemmas.Bool.{eq-eqb, eqb-true, false≢true}
use Rattle.std.proofs.Math.Bool.{or_self}
use Rattle.pg_base.specs.Sets.{has}
use Rattle.pg_base.proofs.SetLaws.{has-zero, none-zero, same_set}
use Rattle.pg_base.specs.declared.numbers.RelNo.{RelNo}
use Rattle.pg_base.specs.declared.rel_set.RelSet.{RelSet}
use Rattle.pg_expr.specs.work.AtomSets.{contains}
use Rattle.eq_classes.specs.Clauses.{Clause, one}
use Rattle.eq_classes.specs.Listing.{clause_at}
use Rattle.eq_classes.specs.Parts.{is_join, is_join_param}
use Rattle.plan_tree.specs.Plans.{Plan, seq, index, index_only, bitmap, sort, nest, merge, GivenScan, given_scan, is_empty, joins, joins_with, param_in, param_of, set_of}
use Rattle.plan_tree.specs.Space.{IsEmpty, IsSameSet}
use Rattle.plan_tree.proofs.LikeLemmas.{given-like}
use Rattle.plan_tree.proofs.SetLemmas.{reads-some}
use Rattle.plan_tree.proofs.GivenLemmas.{given-none, given-one}
use Rattle.plan_tree.proofs.GivenLemmas.{scan-one}

given-some : (t : Plan) (r : RelNo) (p : RelSet) → IsSameSet (param_of t) (has p.0) → ¬ (p.0 ≡ 0) → set_of t r.0 ≡ true → given_scan t ≡ Some (record { relation = r; param = p })
given-some t r p params some reads = by (given_scan t) params (given-one t)
  where
    by : (g : Option GivenScan) → IsSameSet (param_in g) (has p.0) → IfSome g (λ (s : GivenScan). IsSameSet (set_of t) (one s.relation.0)) → g ≡ Some (record { relation = r; param = p })
    by None same of = absurd (some (none-zero p.0 (λ k. sym (same k))))
    by (Some s) same of =
        let rel : s.relation.0 ≡ r.0 = sym (eqb-true r.0 s.relation.0 (sym (of r.0) ∙ reads)) in
        let param : s.param.0 ≡ p.0 = same_set s.param.0 p.0 same in
        ap₂ (λ (m n : ℕ). Some (record { relation = record { 0 = m }; param = record { 0 = n } })) rel param

module _ (ks : List Clause) (a b p : RelSet) (set : List ℕ) (i : Plan) (reads : IsSameSet (set_of i) (has b.0)) (given : IsSameSet (param_of i) (has p.0)) where
  abbrev Tested : Type 0
  Tested = (k : ℕ) → contains set k ≡ nat_lt k (length ks) && joins (has a.0) i (clause_at ks k)

  pub tested-whole : p.0 ≡ 0 → ((k : ℕ) → contains set k ≡ nat_lt k (length ks) && is_join (has a.0) (has b.0) (clause_at ks k)) → Tested
  tested-whole none tested =
      let whole : None ≡ given_scan i = sym (given-none i (λ k. given k ∙ ap (λ n. has n k) none ∙ has-zero k)) in
      let as-set : has b.0 ≡ set_of i = λ j k. sym (reads k) j in
      λ k. tested k ∙ (λ z. nat_lt k (length ks) && joins_with (has a.0) (as-set z) (whole z) (clause_at ks k))

  pub tested-given : (r : RelNo) → ¬ (p.0 ≡ 0) → has b.0 r.0 ≡ true → ((k : ℕ) → contains set k ≡ nat_lt k (length ks) && is_join_param (has a.0) r.0 (has p.0) (clause_at ks k)) → Tested
  tested-given r some is tested =
      let scan : Some (record { relation = r; param = p }) ≡ given_scan i = sym (given-some i r p given some (reads r.0 ∙ is)) in
      λ k. tested k ∙ (λ z. nat_lt k (length ks) && joins_with (has a.0) (set_of i) (scan z) (clause_at ks k))

  -- no plan reads nothing
  pub tested-none : ((k : ℕ) → has b.0 k ≡ false) → Tested
  tested-none none = let h = reads-some i in absurd (false≢true (sym (none h.0) ∙ sym (reads h.0) ∙ h.1))
