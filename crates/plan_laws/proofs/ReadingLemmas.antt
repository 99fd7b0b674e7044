-- A plan's run reads, of the tuple beside it, the rows of its parameterisation alone.
use Rattle.std.proofs.Common.{◌≡◌, ℕ, Bool, true, false, cond, ◌&&◌, List, map, flat_map, filter, refl, sym, ap, ap₂, ◌∙◌, ⊎_elim}
use Rattle.std.specs.Prelude.{None, Some}
use Rattle.std.proofs.lemmas.Bool.{or_cases, true≢false}
use Rattle.pg_base.specs.Sets.{has}
use Rattle.pg_base.specs.declared.numbers.RelNo.{RelNo}
use Rattle.pg_base.specs.declared.numbers.IndexNo.{IndexNo}
use Rattle.pg_base.specs.declared.rel_set.RelSet.{RelSet}
use Rattle.eq_classes.specs.Clauses.{Set, one}
use Rattle.eq_classes.specs.Parts.{union, is_base, is_param}
use Rattle.sql_query.specs.Meaning.{all_true}
use Rattle.sql_query.specs.Queries.{Query, width}
use Rattle.sql_query.specs.Tuples.{Tuple, row_of, one_row, beside, value_at, row_numbers}
use Rattle.sql_query.specs.WellBound.{IsWellBound}
use Rattle.sql_query.specs.Worlds.{World, IsWorld}
use Rattle.plan_tree.specs.index_match_Numbered.{base, conditions_of}
use Rattle.plan_tree.specs.Entries.{entry_rows}
use Rattle.plan_tree.specs.Plans.{Plan, seq, index, index_only, bitmap, sort, nest, merge, scan_given, param_in, param_of, is_empty}
use Rattle.plan_tree.specs.Run.{in_scan_direction, index_rows, joined_tuples, run, sorted_tuples}
use Rattle.plan_tree.specs.Space.{IsBuilt}
use Rattle.plan_laws.specs.work.Meant.{HaveSameRows, holds_at, tested}
use Rattle.plan_laws.proofs.BitmapLemmas.{bitmap_means}
use Rattle.plan_laws.proofs.ClauseLemmas.{local_base, local_param}
use Rattle.plan_laws.proofs.FilterLemmas.{filter_alike, hold_either, those_hold}
use Rattle.plan_laws.proofs.ScanLemmas.{index_rows_are, no_members}
use Rattle.plan_laws.proofs.TupleLemmas.{row_same}

module _ (w : World) (q : Query) (world : IsWorld w) (bound : IsWellBound w.contents q) (o u : Tuple) where
  -- beside two tuples with the same rows of a set a row has the same rows of the set
  beside_alike : (r row : ℕ) (p : Set) → HaveSameRows p o u → HaveSameRows (union (one r) p) (beside q r row o) (beside q r row u)
  beside_alike r row p same k is = row_same (width q) (λ j. cond (one r j) row (row_of o j)) (λ j. cond (one r j) row (row_of u j)) k (⊎_elim
      (λ (own : one r k ≡ true). ap (λ (v : Bool). cond v row (row_of o k)) own ∙ sym (ap (λ (v : Bool). cond v row (row_of u k)) own))
      (λ (other : p k ≡ true). ap (cond (one r k) row) (same k other))
      (or_cases (one r k) (p k) is))

  base_alike : (r row : ℕ) → holds_at w q (beside q r row o) (is_base r) ≡ holds_at w q (beside q r row u) (is_base r)
  base_alike r row = local_base w q world bound (beside q r row o) (beside q r row u) r (λ k is. row_same (width q) (λ j. cond (one r j) row (row_of o j)) (λ j. cond (one r j) row (row_of u j)) k
      (ap (λ (v : Bool). cond v row (row_of o k)) is ∙ sym (ap (λ (v : Bool). cond v row (row_of u k)) is)))

  tested_alike : (r row : ℕ) (p : Set) → HaveSameRows p o u → holds_at w q (beside q r row o) (tested w q r p) ≡ holds_at w q (beside q r row u) (tested w q r p)
  tested_alike r row p same =
      hold_either (value_at w q (beside q r row o)) (is_base r) (is_param r p) q.classes.clauses
      ∙ ap₂ (λ (a b : Bool). a && b) (base_alike r row) (local_param w q world bound (beside q r row o) (beside q r row u) r p (beside_alike r row p same))
      ∙ sym (hold_either (value_at w q (beside q r row u)) (is_base r) (is_param r p) q.classes.clauses)

  rows_alike : (r : ℕ) (p : Set) → HaveSameRows p o u → (ns : List ℕ) → filter (λ row. holds_at w q (beside q r row o) (tested w q r p)) ns ≡ filter (λ row. holds_at w q (beside q r row u) (tested w q r p)) ns
  rows_alike r p same ns = filter_alike (λ row. holds_at w q (beside q r row o) (tested w q r p)) (λ row. holds_at w q (beside q r row u) (tested w q r p)) ns (λ row. tested_alike r row p same)

  -- the parameterisation of a scan, also where it has none
  scan_rows : (r : RelNo) (p : RelSet) → HaveSameRows (param_in (scan_given r p)) o u → HaveSameRows (has p.0) o u
  scan_rows r p same = by (is_empty p) refl same
    where
      by : (v : Bool) → is_empty p ≡ v → HaveSameRows (param_in (cond v None (Some (record { relation = r; param = p })))) o u → HaveSameRows (has p.0) o u
      by true e h = λ k is. absurd (true≢false (sym is ∙ ap (λ (s : Set). s k) (no_members w q world bound p e)))
      by false e h = h

  index_alike : (r : RelNo) (i : IndexNo) (backward : Bool) (p : RelSet) → HaveSameRows (param_in (scan_given r p)) o u → index_rows w q r i backward p o ≡ index_rows w q r i backward p u
  index_alike r i backward p same =
      index_rows_are w q r i backward p o
      ∙ rows_alike r.0 (has p.0) (scan_rows r p same) (in_scan_direction w q backward (entry_rows w i))
      ∙ sym (index_rows_are w q r i backward p u)

  pub run_alike : (p : Plan) → IsBuilt w.contents q p → HaveSameRows (param_of p) o u → run w q p o ≡ run w q p u
  run_alike (seq r) is same =
      ap (map (one_row q r.0)) (filter_alike (λ row. all_true w q (beside q r.0 row o) (conditions_of (base q.classes r.0))) (λ row. all_true w q (beside q r.0 row u) (conditions_of (base q.classes r.0))) (row_numbers w q r)
      (λ row. those_hold w q (beside q r.0 row o) (is_base r.0) ∙ base_alike r.0 row ∙ sym (those_hold w q (beside q r.0 row u) (is_base r.0))))
  run_alike (index r i backward p) is same = ap (map (one_row q r.0)) (index_alike r i backward p same)
  run_alike (index_only r i backward p) is same = ap (map (one_row q r.0)) (index_alike r i backward p same)
  run_alike (bitmap r p bits) is same =
      ap (map (one_row q r.0))
      (bitmap_means w q world r p bits o is.relation is.tree
      ∙ rows_alike r.0 (has p.0) (scan_rows r p same) (row_numbers w q r)
      ∙ sym (bitmap_means w q world r p bits u is.relation is.tree))
  run_alike (sort keys input) is same = ap (sorted_tuples w q input keys) (run_alike input is.0 same)
  run_alike (nest outer inner) is same = ap (flat_map (λ t. joined_tuples w q outer inner t (run w q inner t))) (run_alike outer is.0 (λ k in_it. absurd (true≢false (sym in_it ∙ is.2.sides.outer_whole k))))
  run_alike (merge keys outer inner) is same = ap (flat_map (λ t. joined_tuples w q outer inner t (run w q inner t))) (run_alike outer is.0 (λ k in_it. absurd (true≢false (sym in_it ∙ is.2.sides.outer_whole k))))
