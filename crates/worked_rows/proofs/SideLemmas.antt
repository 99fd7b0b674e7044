-- Scans that are given no rows, and the sides of a merge.
use mathlib.Core.Path.{fun_ext}
use Rattle.std.proofs.Common.{◌≡◌, ℕ, false, nat_eq, List, [], sym, ap, ◌∙◌, subst}
use Rattle.std.proofs.lemmas.Bool.{true≢false}
use Rattle.pg_base.specs.Sets.{has}
use Rattle.pg_base.specs.declared.rel_set.RelSet.{RelSet}
use Rattle.pg_base.proofs.SetLaws.{has-zero}
use Rattle.eq_classes.specs.Clauses.{Set}
use Rattle.heap.specs.work.Tuples.{TupleList, padded, padded_tuples}
use Rattle.pathkeys.specs.Keys.{Keys}
use Rattle.sql_query.specs.Queries.{Query, width}
use Rattle.sql_query.specs.Tuples.{Tuple, no_rows}
use Rattle.sql_query.specs.WellBound.{IsWellBound}
use Rattle.sql_query.specs.Worlds.{World, IsWorld}
use Rattle.plan_tree.specs.Plans.{Plan, param_of, set_of}
use Rattle.plan_tree.specs.Run.{run}
use Rattle.plan_tree.specs.work.Sorted.{AreSorted}
use Rattle.plan_tree.specs.Space.{HasKeys, IsBuilt, IsEmpty}
use Rattle.scan_probes.specs.work.Scenes.{AreRowsOf}
use Rattle.scan_exec.specs.work.Plans.{IsScan, param_set, relation_of}
use Rattle.sort_rows.specs.work.Rows.{AllHaveRows}
use Rattle.executor.proofs.RankLemmas.{none-padded, rank-none}
use Rattle.executor.proofs.RowLemmas.{kept_have_rows}
use Rattle.executor.proofs.ScanLemmas.{scan_set}
use Rattle.executor.proofs.StartLemmas.{side_sorted}

-- an empty parameterisation has no relation
none_in : (p : RelSet) → p.0 ≡ 0 → (k : ℕ) → has p.0 k ≡ false
none_in p none k = ap (λ (n : ℕ). has n k) none ∙ has-zero k

module _ (w : World) (q : Query) (p : Plan) (is : IsScan p) (none : (param_set p).0 ≡ 0) where
  -- what a scan is started with
  pub no_outer_rows : AreRowsOf w q (param_set p) []
  no_outer_rows = record {
    each = sym (rank-none (has (param_set p).0) (none_in (param_set p) none) 16);
    within = λ k in_it. absurd (true≢false (sym in_it ∙ none_in (param_set p) none k));
  }

  pub rows_of_scan : (ts : List Tuple) → ts ≡ run w q p (padded (width q) (has (param_set p).0) []) → ts ≡ run w q p (no_rows q)
  rows_of_scan ts are = are ∙ ap (λ (o : Tuple). run w q p o) (none-padded q (has (param_set p).0) (none_in (param_set p) none))

-- the relations of a scan's tuples
pub set_of_scan : (p : Plan) → IsScan p → (s : Set) → ((k : ℕ) → s k ≡ nat_eq k (relation_of p).0) → s ≡ set_of p
set_of_scan p is s each = fun_ext each ∙ sym (scan_set p is)

module _ (w : World) (q : Query) (p : Plan) (ts : TupleList) (world : IsWorld w) (bound : IsWellBound w.contents q) (built : IsBuilt w.contents q p) (set : has ts.set.0 ≡ set_of p) (rows : padded_tuples (width q) ts ≡ run w q p (no_rows q)) where
  -- each tuple has rows
  pub side_held : IsEmpty (param_of p) → AllHaveRows w q ts
  side_held none = kept_have_rows w q world bound p built none ts set rows

  -- they are sorted by the keys that the plan has
  pub side_up : (keys : Keys) → HasKeys w.contents q p keys → AreSorted w q (has ts.set.0) keys (padded_tuples (width q) ts)
  side_up keys is =
      subst (λ (s : Set). AreSorted w q s keys (padded_tuples (width q) ts)) (sym set)
      (subst (λ (us : List Tuple). AreSorted w q (set_of p) keys us) (sym rows) (side_sorted w q world bound p keys built is (no_rows q)))
