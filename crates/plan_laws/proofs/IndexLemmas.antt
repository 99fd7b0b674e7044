-- What is said of an index reads its definition and not its number.
use Rattle.std.proofs.Common.{◌≡◌, ℕ, Bool, List, [], ◌∷◌, length, refl, sym, ap, ap₂, ◌∙◌, subst}
use Rattle.std.specs.Prelude.{min, Option, Some, None}
use Rattle.pg_base.specs.Sets.{has}
use Rattle.pg_base.specs.declared.numbers.IndexNo.{IndexNo}
use Rattle.pg_base.specs.declared.numbers.RelNo.{RelNo}
use Rattle.pg_base.specs.declared.rel_set.RelSet.{RelSet}
use Rattle.pg_expr.specs.Cond.{Cond}
use Rattle.catalog.specs.Contents.{TableDef, NamedIndex, index_at}
use Rattle.catalog.specs.Indexes.{Index}
use Rattle.catalog.specs.Range.{Range}
use Rattle.catalog.specs.Tables.{rows_of}
use Rattle.eq_classes.specs.Clauses.{Set, ClassTable}
use Rattle.cost_rules.specs.Scans.{part_cost, index_scan_cost}
use Rattle.path_cost.specs.Estimates.{conditions_from, entry_estimate, entries_by, kept, kept_among, set_numbers_from, table_pages, table_rows}
use Rattle.path_cost.specs.Runs.{runs}
use Rattle.path_cost.specs.Costs.{arm_part, descent, descent_by, index_rows_found, index_cost, index_part, other_operators, part_within, rows_after}
use Rattle.index_match.specs.Arms.{arm_bounds, arm_parts}
use Rattle.index_match.specs.Bounds.{bounds_among, index_bounds}
use Rattle.index_match.specs.Conditions.{conditions_among, index_conditions}
use Rattle.index_match.specs.Numbered.{Numbered, has_number, local}
use Rattle.index_match.specs.Usable.{IsUsable, IsUsableBy}
use Rattle.pathkeys.specs.Keys.{index_keys, keys_by}
use Rattle.sql_query.specs.Queries.{Query}
use Rattle.plan_tree.specs.Costs.{scan_cost}
use Rattle.plan_laws.specs.Moved.{over}
use Rattle.plan_laws.proofs.EstimateLemmas.{kept-over, selectivity-over}
use Rattle.plan_laws.proofs.RunLemmas.{kept-by-over, runs-over}

usable-by : (tables : List TableDef) (a b : List NamedIndex) (t : ClassTable) (r : ℕ) (d : Index) (e : Option Cond) → IsUsableBy (over tables a) t r d e → IsUsableBy (over tables b) t r d e
usable-by tables a b t r d None h = h
usable-by tables a b t r d (Some e) h = h

entries-by : (tables : List TableDef) (a b : List NamedIndex) (d : Index) (e : Option Cond) → entries_by (over tables b) d e ≡ entries_by (over tables a) d e
entries-by tables a b d None = refl
entries-by tables a b d (Some e) = ap (λ (n : ℕ). kept (rows_of (over tables a) d.table) (n ∷ [])) (selectivity-over tables a b ((d.table, []) ∷ []) e)

module _ (tables : List TableDef) (a b : List NamedIndex) (i j : IndexNo) (same : index_at (over tables b) j ≡ index_at (over tables a) i) where
  pub conditions-same : (t : ClassTable) (r : ℕ) (p : Set) → index_conditions (over tables b) t j r p ≡ index_conditions (over tables a) t i r p
  conditions-same t r p = ap (λ (d : Index). conditions_among d r (local t r p)) same

  pub bounds-same : (t : ClassTable) (r : ℕ) (p : Set) → index_bounds (over tables b) t j r p ≡ index_bounds (over tables a) t i r p
  bounds-same t r p = ap (λ (d : Index). bounds_among d r (conditions_among d r (local t r p))) same

  pub keys-same : (t : ClassTable) (r : ℕ) (backward : Bool) → index_keys (over tables b) t j r backward ≡ index_keys (over tables a) t i r backward
  keys-same t r backward = ap (λ (d : Index). keys_by d.method t r backward d.keys) same

  pub usable-same : (t : ClassTable) (r : ℕ) → IsUsable (over tables a) t i r → IsUsable (over tables b) t j r
  usable-same t r h = usable-by tables a b t r (index_at (over tables b) j) (index_at (over tables b) j).predicate (subst (λ (d : Index). IsUsableBy (over tables a) t r d d.predicate) (sym same) h)

  pub usable-back : (t : ClassTable) (r : ℕ) → IsUsable (over tables b) t j r → IsUsable (over tables a) t i r
  usable-back t r h = usable-by tables b a t r (index_at (over tables a) i) (index_at (over tables a) i).predicate (subst (λ (d : Index). IsUsableBy (over tables b) t r d d.predicate) same h)

  pub entries-same : entry_estimate (over tables b) j ≡ entry_estimate (over tables a) i
  entries-same = ap (λ (d : Index). entries_by (over tables b) d d.predicate) same ∙ entries-by tables a b (index_at (over tables a) i) (index_at (over tables a) i).predicate

  pub descent-same : descent (over tables b) j ≡ descent (over tables a) i
  descent-same = ap₂ descent_by (ap (λ (d : Index). d.method) same) entries-same

  part-same : (l n k m : ℕ) → n ≡ k → part_within (over tables b) l j n m ≡ part_within (over tables a) l i k m
  part-same l n k m h =
      ap₂ (λ (x y : ℕ). part_cost l x (min y n) y m) descent-same entries-same
      ∙ ap (λ (y : ℕ). part_cost l (descent (over tables a) i) (min (entry_estimate (over tables a) i) y) (entry_estimate (over tables a) i) m) h

  index-part-same : (range : Range) (t : ClassTable) (r : ℕ) (p : Set) (bs cs : ℕ → Bool) → index_part (over tables b) range t j r p bs cs ≡ index_part (over tables a) range t i r p bs cs
  index-part-same range t r p bs cs =
      ap (λ (l : ℕ). part_within (over tables b) l j (rows_after (over tables b) range t r bs) (length (conditions_from 0 cs t.clauses))) (runs-over tables a b range t p)
      ∙ part-same (runs (over tables a) range t p) (rows_after (over tables b) range t r bs) (rows_after (over tables a) range t r bs) (length (conditions_from 0 cs t.clauses)) (kept-by-over tables a b range t (table_rows (over tables a) range r) bs)

  found-same : (range : Range) (t : ClassTable) (r : ℕ) (cs : ℕ → Bool) → index_rows_found (over tables b) range t j r cs ≡ index_rows_found (over tables a) range t i r cs
  found-same range t r cs = ap₂ min entries-same (kept-by-over tables a b range t (table_rows (over tables a) range r) cs)

  index-cost-same : (range : Range) (t : ClassTable) (r : ℕ) (p : Set) (bs cs : ℕ → Bool) (only : Bool) → index_cost (over tables b) range t j r p bs cs only ≡ index_cost (over tables a) range t i r p bs cs only
  index-cost-same range t r p bs cs only =
      ap (λ (l : ℕ). index_scan_cost l (descent (over tables b) j) (index_part (over tables b) range t j r p bs cs) only (index_rows_found (over tables b) range t j r cs) (table_pages (over tables a) range r) (other_operators (over tables a) range t r p cs)) (runs-over tables a b range t p)
      ∙ ap₂ (λ (x y : ℕ). index_scan_cost (runs (over tables a) range t p) x y only (index_rows_found (over tables b) range t j r cs) (table_pages (over tables a) range r) (other_operators (over tables a) range t r p cs)) descent-same (index-part-same range t r p bs cs)
      ∙ ap (λ (n : ℕ). index_scan_cost (runs (over tables a) range t p) (descent (over tables a) i) (index_part (over tables a) range t i r p bs cs) only n (table_pages (over tables a) range r) (other_operators (over tables a) range t r p cs)) (found-same range t r cs)

  -- what a scan by the index costs
  pub scan-cost-same : (q : Query) (r : RelNo) (p : RelSet) (only : Bool) → scan_cost (over tables b) q r j p only ≡ scan_cost (over tables a) q r i p only
  scan-cost-same q r p only =
      ap₂ (λ (x y : List Numbered). index_cost (over tables b) q.range q.classes j r.0 (has p.0) (has_number x) (has_number y) only) (bounds-same q.classes r.0 (has p.0)) (conditions-same q.classes r.0 (has p.0))
      ∙ index-cost-same q.range q.classes r.0 (has p.0) (has_number (index_bounds (over tables a) q.classes i r.0 (has p.0))) (has_number (index_conditions (over tables a) q.classes i r.0 (has p.0))) only

  -- the part of a leaf of a bitmap tree, and of an arm
  pub leaf-same : (q : Query) (r : ℕ) (p : Set) → index_part (over tables b) q.range q.classes j r p (has_number (index_bounds (over tables b) q.classes j r p)) (has_number (index_conditions (over tables b) q.classes j r p)) ≡ index_part (over tables a) q.range q.classes i r p (has_number (index_bounds (over tables a) q.classes i r p)) (has_number (index_conditions (over tables a) q.classes i r p))
  leaf-same q r p =
      ap₂ (λ (x y : List Numbered). index_part (over tables b) q.range q.classes j r p (has_number x) (has_number y)) (bounds-same q.classes r p) (conditions-same q.classes r p)
      ∙ index-part-same q.range q.classes r p (has_number (index_bounds (over tables a) q.classes i r p)) (has_number (index_conditions (over tables a) q.classes i r p))

  pub arm-same : (q : Query) (r : ℕ) (p : Set) (arm : Cond) → arm_part (over tables b) q.range q.classes j r p (arm_parts arm) (has_number (arm_bounds (index_at (over tables b) j) r arm)) ≡ arm_part (over tables a) q.range q.classes i r p (arm_parts arm) (has_number (arm_bounds (index_at (over tables a) i) r arm))
  arm-same q r p arm =
      ap (λ (d : Index). arm_part (over tables b) q.range q.classes j r p (arm_parts arm) (has_number (arm_bounds d r arm))) same
      ∙ ap (λ (l : ℕ). part_within (over tables b) l j (kept_among (over tables b) q.range (table_rows (over tables a) q.range r) (has_number (arm_bounds (index_at (over tables a) i) r arm)) (arm_parts arm)) (length (arm_parts arm))) (runs-over tables a b q.range q.classes p)
      ∙ part-same (runs (over tables a) q.range q.classes p) (kept_among (over tables b) q.range (table_rows (over tables a) q.range r) (has_number (arm_bounds (index_at (over tables a) i) r arm)) (arm_parts arm)) (kept_among (over tables a) q.range (table_rows (over tables a) q.range r) (has_number (arm_bounds (index_at (over tables a) i) r arm)) (arm_parts arm)) (length (arm_parts arm))
      (kept-over tables a b q.range (table_rows (over tables a) q.range r) (arm_parts arm) (set_numbers_from 0 (length (arm_parts arm)) (has_number (arm_bounds (index_at (over tables a) i) r arm))))
