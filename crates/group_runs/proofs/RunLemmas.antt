-- The groups of what a finished plan gives.
use Rattle.std.proofs.Common.{◌≡◌, List, length, map, ◌∙◌}
use Rattle.std.specs.Prelude.{All, IsPermutation, Option}
use Rattle.std.proofs.lemmas.List.{length-map}
use Rattle.std.proofs.lemmas.List.Elements.{All-map}
use Rattle.std.proofs.lemmas.List.Sorted.{IsPermutation-map}
use Rattle.pg_expr.specs.declared.operand.ColRef.{ColRef}
use Rattle.pg_value.specs.Sorting.{one_after_other}
use Rattle.sql_query.specs.Meaning.{item_order, meaning}
use Rattle.sql_query.specs.Queries.{Query}
use Rattle.sql_query.specs.Tuples.{Tuple, no_rows, value_at}
use Rattle.sql_query.specs.WellBound.{IsWellBound, ordered_columns}
use Rattle.sql_query.specs.Worlds.{World, IsWorld}
use Rattle.plan_tree.specs.Plans.{Plan}
use Rattle.plan_tree.specs.Run.{run}
use Rattle.plan_tree.specs.Space.{IsFinished}
use Rattle.plan_laws.proofs.FinishedLemmas.{finished_is_meaning}
use Rattle.plan_laws.proofs.FinishedOrderLemmas.{finished_is_ordered}
use Rattle.group_values.specs.Groups.{Seen, lines, sorted, summaries}
use Rattle.group_values.specs.Shapes.{GroupShape}
use Rattle.group_values.specs.work.Neighbours.{AreTogether}
use Rattle.group_values.proofs.SortedLemmas.{sorted-together}
use Rattle.group_runs.proofs.BagLemmas.{bag-of-groups, bag-of-lines}
use Rattle.group_runs.specs.Seen.{seen_of}
use Rattle.group_runs.proofs.TieLemmas.{items-tie, items-total}

module _ (w : World) (q : Query) (p : Plan) (world : IsWorld w) (bound : IsWellBound w.contents q) (finished : IsFinished w.contents q p) where
  module _ (shape : GroupShape) (keys : List ColRef) (args : List (Option ColRef)) (many : length keys ≡ shape.width) where
    abbrev seen : List Tuple → List Seen
    seen ts = map (seen_of w q keys args) ts

    wide : All (λ (s : Seen). length s.keys ≡ shape.width) (seen (run w q p (no_rows q)))
    wide = All-map (λ (s : Seen). length s.keys ≡ shape.width) (seen_of w q keys args) (run w q p (no_rows q)) (λ i d lt. length-map keys (value_at w q _) ∙ many)

    same-bag : IsPermutation (seen (run w q p (no_rows q))) (seen (meaning w q))
    same-bag = IsPermutation-map (seen_of w q keys args) (run w q p (no_rows q)) (meaning w q) (finished_is_meaning w q world bound p finished)

    pub plan-lines : IsPermutation (lines shape (seen (run w q p (no_rows q)))) (lines shape (seen (meaning w q)))
    plan-lines = bag-of-lines shape (seen (run w q p (no_rows q))) (seen (meaning w q)) wide same-bag

    -- the groups of what the plan gives, sorted, are as a bag those of what the query means
    pub plan-groups : IsPermutation (sorted shape.order (summaries shape (seen (run w q p (no_rows q))))) (summaries shape (seen (meaning w q)))
    plan-groups = bag-of-groups shape (seen (run w q p (no_rows q))) (seen (meaning w q)) wide same-bag

  pub plan-neighbours : (args : List (Option ColRef)) → AreTogether (map (seen_of w q (ordered_columns q.order) args) (run w q p (no_rows q)))
  plan-neighbours args =
      sorted-together (one_after_other (map (item_order w q) q.order)) (items-total w q world q.order) (seen_of w q (ordered_columns q.order) args) (λ t. Unit {0}) (λ t u a b. items-tie w q world q.order t u)
      (run w q p (no_rows q)) (λ i d lt. tt) (finished_is_ordered w q p world bound finished)
