-- The relations that the clauses of a set name.
use Rattle.std.proofs.Common.{◌≡◌, ◌<◌, ◌≤◌, ◌+◌, ℕ, Bool, true, false, ◌||◌, nat_lt, List, IsTrue, length, drop, sym, ◌∙◌, ap, arith}
use Rattle.std.specs.List.{list_any}
use Rattle.std.proofs.lemmas.Bool.{and_parts, lt-ltb, ltb-true}
use Rattle.std.proofs.lemmas.List.Elements.{All-get_or}
use Rattle.std.proofs.Math.Bool.{or-false, or_assoc}
use Rattle.pg_expr.specs.Cond.{Cond}
use Rattle.pg_expr.specs.Columns.{names_rel}
use Rattle.pg_expr.specs.work.Columns.{rels_below}
use Rattle.pg_expr.proofs.ColumnLaws.{weaker-each}
use Rattle.sql_query.specs.catalog_Contents.{Contents}
use Rattle.eq_classes.specs.Clauses.{Clause}
use Rattle.eq_classes.specs.Listing.{clause_at}
use Rattle.path_cost.specs.work.Columns.{IsOver, is_column_in}
use Rattle.path_cost.specs.Estimates.{conditions_from}
use Rattle.path_cost.proofs.CostLemmas.{none-left}
use Rattle.path_cost.proofs.KeptLemmas.{conditions-at}
use Rattle.sql_query.specs.Queries.{Query}
use Rattle.plan_tree.specs.work.Reads.{IsOverTables}

-- the relations of a clause of a query are those that a set may hold
pub few-relations : (c : Contents) (q : Query) (n : ℕ) → IsOverTables c q → n < length q.classes.clauses → IsTrue (rels_below 16 (clause_at q.classes.clauses n).cond)
few-relations c q n h lt =
    let over : IsOver c q.range (clause_at q.classes.clauses n).cond = All-get_or (λ (k : Clause). IsOver c q.range k.cond) q.classes.clauses n _ lt h.clauses in
    weaker-each (is_column_in c q.range) (λ x. nat_lt x.rel.0 16)
    (λ x is. lt-ltb x.rel.0 16 (omega (arith, h.few, ltb-true x.rel.0 (length q.range) (and_parts (nat_lt x.rel.0 (length q.range)) _ is).0)))
    (clause_at q.classes.clauses n).cond over.columns

abbrev some_names : ℕ → List Cond → Bool
some_names k es = list_any (names_rel k) es

module _ (ks : List Clause) (chosen : ℕ → Bool) (n k : ℕ) (old next whole : Bool) where
  pub named-yes : n < length ks → chosen n ≡ true → next ≡ old || names_rel k (clause_at ks n).cond → old || list_any (names_rel k) (conditions_from n chosen (drop n ks)) ≡ whole → next || list_any (names_rel k) (conditions_from (n + 1) chosen (drop (n + 1) ks)) ≡ whole
  named-yes lt e f h =
      ap (λ (b : Bool). b || some_names k (conditions_from (n + 1) chosen (drop (n + 1) ks))) f
      ∙ (or_assoc old (names_rel k (clause_at ks n).cond) (some_names k (conditions_from (n + 1) chosen (drop (n + 1) ks))))
      ∙ sym (ap (λ (es : List Cond). old || some_names k es) (conditions-at ks chosen n true lt e)) ∙ h

  pub named-no : n < length ks → chosen n ≡ false → next ≡ old → old || list_any (names_rel k) (conditions_from n chosen (drop n ks)) ≡ whole → next || list_any (names_rel k) (conditions_from (n + 1) chosen (drop (n + 1) ks)) ≡ whole
  named-no lt e f h =
      ap (λ (b : Bool). b || some_names k (conditions_from (n + 1) chosen (drop (n + 1) ks))) f
      ∙ sym (ap (λ (es : List Cond). old || some_names k es) (conditions-at ks chosen n false lt e)) ∙ h

pub named-all : (ks : List Clause) (chosen : ℕ → Bool) (n k : ℕ) (old whole : Bool) → length ks ≤ n → old || list_any (names_rel k) (conditions_from n chosen (drop n ks)) ≡ whole → old ≡ whole
named-all ks chosen n k old whole past h =
    sym (or-false old) ∙ sym (ap (λ (xs : List Clause). old || some_names k (conditions_from n chosen xs)) (none-left ks n past)) ∙ h
