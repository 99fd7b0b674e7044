-- The relations whose rows a scan is given are relations of the query.
use Rattle.std.proofs.Common.{◌≡◌, ◌<◌, ◌≤◌, ◌+◌, ℕ, Bool, true, false, not, cond, nat_eq, nat_lt, List, [], ◌∷◌, sym, ◌∙◌, ap, subst, ⊎_elim}
use Rattle.std.specs.Prelude.{All}
use Rattle.std.specs.List.{list_any}
use Rattle.std.proofs.lemmas.Bool.{and_parts, eqb-true, lt-ltb, ltb-true, or_cases, true≢false}
use Rattle.std.proofs.lemmas.List.Elements.{All-head, All-tail}
use Rattle.pg_base.specs.Sets.{has}
use Rattle.pg_base.specs.declared.numbers.IndexNo.{IndexNo}
use Rattle.pg_base.specs.declared.numbers.RelNo.{RelNo}
use Rattle.pg_base.specs.declared.rel_set.RelSet.{RelSet}
use Rattle.pg_expr.specs.Columns.{names_rel}
use Rattle.pg_expr.specs.Cond.{Cond}
use Rattle.catalog.specs.Contents.{Contents}
use Rattle.eq_classes.specs.Clauses.{Clause}
use Rattle.eq_classes.proofs.InsideLemmas.{column_both}
use Rattle.index_match.specs.Conditions.{index_conditions}
use Rattle.index_match.specs.Numbered.{has_number}
use Rattle.path_cost.specs.work.Columns.{IsOver, is_column_in}
use Rattle.path_cost.specs.Estimates.{conditions_from}
use Rattle.sql_query.specs.Queries.{Query, all_of_query, width}
use Rattle.plan_tree.specs.Bitmaps.{uses}
use Rattle.plan_tree.specs.Plans.{BitTree}
use Rattle.plan_tree.specs.work.Reads.{IsOverTables}
use Rattle.plan_tree.specs.Space.{IsBitmapScan, IsIndexScan, IsSameSet, others_named}
use Rattle.plan_tree.proofs.ConditionLemmas.{conditions-listed}
use Rattle.plan_tree.proofs.SetLemmas.{within-most}
use Rattle.plan_tree.proofs.GivenLemmas.{clauses-below as below}

module _ (c : Contents) (q : Query) (over : IsOverTables c q) (all : RelSet) (is_all : IsSameSet (has all.0) (all_of_query q)) where
  named-below : (r : ℕ) (chosen : ℕ → Bool) (k : ℕ) → others_named r (conditions_from 0 chosen q.classes.clauses) k ≡ true → k < width q
  named-below r chosen k h = below c q k chosen 0 q.classes.clauses over.clauses (and_parts (not (nat_eq k r)) (list_any (names_rel k) (conditions_from 0 chosen q.classes.clauses)) h).1

  most : (p : RelSet) → ((k : ℕ) → has p.0 k ≡ true → k < width q) → p.0 ≤ all.0
  most p h = within-most p.0 all.0 (λ k is. is_all k ∙ lt-ltb k (width q) (h k is))

  -- the number of the set of relations whose rows a scan is given is no greater than that of all
  pub index-most : (r : RelNo) (i : IndexNo) (backward : Bool) (p : RelSet) → IsIndexScan c q r i backward p → p.0 ≤ all.0
  index-most r i backward p scan = most p (λ k is.
      named-below r.0 (has_number (index_conditions c q.classes i r.0 (has p.0))) k
      (sym (ap (λ (es : List Cond). others_named r.0 es k) (conditions-listed c q.classes i r.0 (has p.0))) ∙ sym (scan.named k) ∙ is))

  pub bitmap-most : (r : RelNo) (p : RelSet) (bits : BitTree) → IsBitmapScan c q r p bits → p.0 ≤ all.0
  bitmap-most r p bits scan = most p (λ k is. named-below r.0 (uses c q r.0 (has p.0) bits) k (sym (scan.named k) ∙ is))
