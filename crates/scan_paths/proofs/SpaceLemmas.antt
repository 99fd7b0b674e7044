-- Scans of the plan space by an index, and all scans of a relation.
use Rattle.std.proofs.Common.{◌≡◌, ℕ, Bool, true, false, cond, ◌||◌, List, refl, sym, ◌∙◌, ap, subst, subst₂}
use Rattle.std.specs.Prelude.{All, Some, None}
use Rattle.std.proofs.lemmas.Bool.{eq-eqb, eqb-true, true≢false}
use Rattle.std.proofs.lemmas.List.Elements.{All-contains}
use Rattle.std.proofs.Math.Bool.{or-true}
use Rattle.pg_base.specs.Sets.{has}
use Rattle.pg_base.specs.declared.numbers.IndexNo.{IndexNo}
use Rattle.pg_base.specs.declared.numbers.RelNo.{RelNo}
use Rattle.pg_base.specs.declared.rel_set.RelSet.{RelSet}
use Rattle.pg_base.proofs.SetLaws.{has-zero, same_set}
use Rattle.catalog.specs.Contents.{Contents, index_at, indexes_of}
use Rattle.cost_rules.specs.work.Costs.{capped_pair}
use Rattle.eq_classes.specs.Clauses.{one}
use Rattle.index_match.specs.Conditions.{is_hash}
use Rattle.sql_query.specs.Queries.{Query}
use Rattle.plan_tree.specs.Plans.{Plan, seq, index, index_only, bitmap, sort, nest, merge, is_empty, param_in, scan_given, set_of}
use Rattle.plan_tree.specs.Bitmaps.{IsIndexOn, table_of_relation}
use Rattle.plan_tree.specs.Space.{AreSides, IsBuilt, IsPlanOf, IsSameSet, may_go}
use Rattle.plan_tree.specs.Costs.{cost, scan_cost}
use Rattle.plan_tree.specs.work.Paths.{Path}
use Rattle.plan_tree.specs.work.Fronts.{AreDominated, IsServed, is_no_bitmap}
use Rattle.scan_paths.specs.work.Scans.{IsIndexServed, tree_by}
use Rattle.scan_paths.proofs.IndexLemmas.{index-listed}
use Rattle.plan_tree.proofs.SetLemmas.{reads-some}

-- the parameterisation of a scan is the set that it has
pub given-param : (r : RelNo) (p : RelSet) (k : ℕ) → param_in (scan_given r p) k ≡ has p.0 k
given-param r p k = by (is_empty p) refl
  where
    by : (b : Bool) → is_empty p ≡ b → param_in (cond b None (Some (record { relation = r; param = p }))) k ≡ has p.0 k
    by true e = sym (has-zero k) ∙ sym (ap (λ n. has n k) (eqb-true p.0 0 e))
    by false e = refl

module _ (c : Contents) (q : Query) (r : RelNo) (i : IndexNo) (p : RelSet) where
  -- a scan by an index of the space is a plan of its relation and its parameterisation
  pub built-of : (only backward : Bool) → IsBuilt c q (tree_by only r i backward p) → IsPlanOf c q (one r.0) (has p.0) (tree_by only r i backward p)
  built-of false backward h = record { built = h; plain = refl; set_is = λ k. refl; param_is = λ k. given-param r p k }
  built-of true backward h = record { built = h; plain = refl; set_is = λ k. refl; param_is = λ k. given-param r p k }

  -- where the backward one is of the space so is the forward one, and it may go backward
  pub forward-built : (only backward : Bool) → IsBuilt c q (tree_by only r i backward p) → IsBuilt c q (tree_by only r i false p)
  forward-built false backward h = record { relation = h.relation; index = h.index; usable = h.usable; direction = refl; condition = h.condition; named = h.named }
  forward-built true backward h = record {
    scan = record { relation = h.scan.relation; index = h.scan.index; usable = h.scan.usable; direction = refl; condition = h.scan.condition; named = h.scan.named };
    ordered = h.ordered;
    columns = h.columns;
  }

  pub backward-goes : (only : Bool) → IsBuilt c q (tree_by only r i true p) → may_go true (is_hash (index_at c i).method) p ≡ true
  backward-goes false h = h.direction
  backward-goes true h = h.scan.direction

  pub backward-built : (only : Bool) → IsBuilt c q (tree_by only r i false p) → may_go true (is_hash (index_at c i).method) p ≡ true → IsBuilt c q (tree_by only r i true p)
  backward-built false h goes = record { relation = h.relation; index = h.index; usable = h.usable; direction = goes; condition = h.condition; named = h.named }
  backward-built true h goes = record {
    scan = record { relation = h.scan.relation; index = h.scan.index; usable = h.scan.usable; direction = goes; condition = h.scan.condition; named = h.scan.named };
    ordered = h.ordered;
    columns = h.columns;
  }

module _ (c : Contents) (q : Query) (r : RelNo) (i : IndexNo) (backward : Bool) (p : RelSet) where
  -- what such a scan costs; it is none by a bitmap
  pub cost-by : (only : Bool) → capped_pair (scan_cost c q r i p only) ≡ capped_pair (cost c q (tree_by only r i backward p))
  cost-by false = refl
  cost-by true = refl

  pub no-bitmap : (only : Bool) → is_no_bitmap (tree_by only r i backward p) ≡ true
  no-bitmap false = refl
  no-bitmap true = refl

-- a join reads more than one relation
pub no-join : (outer inner : Plan) (r : ℕ) → AreSides outer inner → IsSameSet (λ k. set_of outer k || set_of inner k) (one r) → ⊥
no-join outer inner r sides same =
    let o = reads-some outer in
    let i = reads-some inner in
    let at-o : o.0 ≡ r = eqb-true o.0 r (sym (same o.0) ∙ ap (λ b. b || set_of inner o.0) o.1) in
    let at-i : i.0 ≡ r = eqb-true i.0 r (sym (same i.0) ∙ ap (λ b. set_of outer i.0 || b) i.1 ∙ or-true (set_of outer i.0)) in
    true≢false (sym (subst (λ k. set_of inner k ≡ true) (at-i ∙ sym at-o) i.1) ∙ sides.apart o.0 o.1)

pub same-relation : (r s : RelNo) → IsSameSet (one s.0) (one r.0) → r ≡ s
same-relation r s same =
    let e : s.0 ≡ r.0 = eqb-true s.0 r.0 (sym (same s.0) ∙ eq-eqb s.0 s.0 refl) in
    sym (ap (λ (n : ℕ). let x : RelNo = record { 0 = n } in x) e)

pub same-param : (r : RelNo) (p o : RelSet) → IsSameSet (param_in (scan_given r o)) (has p.0) → p ≡ o
same-param r p o same =
    let e : p.0 ≡ o.0 = same_set p.0 o.0 (λ k. sym (same k) ∙ given-param r o k) in
    ap (λ (n : ℕ). let x : RelSet = record { 0 = n } in x) e

-- where the sequential scan and the scans by each index are, each scan but by a bitmap is dominated
module _ (c : Contents) (q : Query) (r : RelNo) (p : RelSet) (paths : List Path) where
  by-index : (only backward : Bool) (s : RelNo) (i : IndexNo) (o : RelSet) → All (IsIndexServed c q r p paths) (indexes_of c (table_of_relation q r.0)) → r ≡ s → p ≡ o → IsIndexOn c q s.0 i → IsServed c q paths (tree_by only s i backward o)
  by-index only backward s i o all same of on =
      subst₂ (λ x y. IsServed c q paths (tree_by only x i backward y)) same of
      (All-contains (IsIndexServed c q r p paths) (indexes_of c (table_of_relation q r.0)) i all
      (index-listed c i (table_of_relation q r.0) on.made (on.table ∙ ap (λ (x : RelNo). table_of_relation q x.0) (sym same))) only backward)

  pub all-dominated : (((k : ℕ) → has p.0 k ≡ false) → IsServed c q paths (seq r)) → All (IsIndexServed c q r p paths) (indexes_of c (table_of_relation q r.0)) → AreDominated c q is_no_bitmap (one r.0) (has p.0) paths
  all-dominated whole all (seq s) of admissible test =
      subst (λ x. IsServed c q paths (seq x)) (same-relation r s of.set_is) (whole (λ k. sym (of.param_is k))) of.built admissible
  all-dominated whole all (index s i backward o) of admissible test =
      by-index false backward s i o all (same-relation r s of.set_is) (same-param s p o of.param_is) of.built.index of.built admissible
  all-dominated whole all (index_only s i backward o) of admissible test =
      by-index true backward s i o all (same-relation r s of.set_is) (same-param s p o of.param_is) of.built.scan.index of.built admissible
  all-dominated whole all (bitmap s o bits) of admissible test = absurd (true≢false (sym test))
  all-dominated whole all (sort keys input) of admissible test = absurd (true≢false of.plain)
  all-dominated whole all (nest outer inner) of admissible test = absurd (no-join outer inner r.0 of.built.2.sides of.set_is)
  all-dominated whole all (merge keys outer inner) of admissible test = absurd (no-join outer inner r.0 of.built.2.sides of.set_is)
