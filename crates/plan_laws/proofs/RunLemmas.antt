-- Rows of a query's sets, and how often a scan is run, read the tables of a catalogue and not its indexes.
use Rattle.std.proofs.Common.{◌≡◌, ℕ, Bool, List, length, map}
use Rattle.catalog.specs.Contents.{TableDef, NamedIndex}
use Rattle.catalog.specs.Range.{Range}
use Rattle.eq_classes.specs.Clauses.{ClassTable, Set, one}
use Rattle.eq_classes.specs.Parts.{is_all}
use Rattle.path_cost.specs.Estimates.{is_number_where, kept_by, set_numbers_from, product_rows, relations, set_rows}
use Rattle.path_cost.specs.Ranges.{conditions}
use Rattle.path_cost.specs.Runs.{least_or_one, runs}
use Rattle.plan_laws.specs.Moved.{over}
use Rattle.plan_laws.proofs.EstimateLemmas.{kept-over}

module _ (tables : List TableDef) (a b : List NamedIndex) (range : Range) (t : ClassTable) where
  -- what the clauses of a set of numbers leave of some rows
  pub kept-by-over : (n : ℕ) (chosen : ℕ → Bool) → kept_by (over tables b) range n chosen t ≡ kept_by (over tables a) range n chosen t
  kept-by-over n chosen = kept-over tables a b range n (conditions t) (set_numbers_from 0 (length t.clauses) chosen)

  pub set-rows-over : (set : Set) → set_rows (over tables b) range t set ≡ set_rows (over tables a) range t set
  set-rows-over set = kept-by-over (product_rows (over tables a) range (relations range set)) (is_number_where (is_all set) t)

  pub runs-over : (p : Set) → runs (over tables b) range t p ≡ runs (over tables a) range t p
  runs-over p = λ z. least_or_one (map (λ q. set-rows-over (one q) z) (relations range p))
