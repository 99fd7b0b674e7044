-- How often a scan is run. Own, in the manner of PostgreSQL's get_loop_count.
use Rattle.std.specs.Prelude.{ℕ, min, List, [], ◌∷◌, map, fold}
use Rattle.catalog.specs.Contents.{Contents}
use Rattle.catalog.specs.Range.{Range}
use Rattle.eq_classes.specs.Clauses.{ClassTable, Set, one}
use Rattle.path_cost.specs.Estimates.{relations, set_rows}

-- the least of some numbers, and 1 of none
abbrev pub least_or_one : List ℕ → ℕ
least_or_one [] = 1
least_or_one (n ∷ ns) = fold min n ns

-- the estimated rows of each relation of a set, alone
abbrev pub rows_alone : Contents → Range → ClassTable → Set → List ℕ
rows_alone c range t set = map (λ q. set_rows c range t (one q)) (relations range set)

-- the runs for which a scan with a parameterisation is priced, once for each outer row: the rows of that relation of the
-- parameterisation that has the fewest; one run where no rows are given
abbrev pub runs : Contents → Range → ClassTable → Set → ℕ
runs c range t p = least_or_one (rows_alone c range t p)
