-- Conditions as lists of expressions.
use Rattle.std.specs.Prelude.{List, map, ℕ, Bool}
use Rattle.std.specs.Borrow.{Bor}
use Rattle.pg_expr.specs.declared.expr.Expr.{Expr}
use Rattle.pg_expr.specs.Cond.{Cond}
use Rattle.pg_expr.specs.work.View.{cond}
use Rattle.opfamily.specs.KeyOrder.{IndexEntry}
use Rattle.pg_expr.specs.work.AtomSets.{contains}
use Rattle.catalog.specs.work.Entries.{index_of}
use Rattle.catalog.specs.declared.index_def.IndexDef.{IndexDef}
use Rattle.eq_classes.specs.Clauses.{ClassTable}
use Rattle.heap.specs.Stored.{Values}
use Rattle.path_cost.specs.Estimates.{conditions_from}
use Rattle.scan_probes.specs.work.Scenes.{AreReadyAtEntry, AreReadyAtRow}
use Rattle.scan_probes.specs.work.Values.{Given, are_true, value_beside, value_in, value_in_entry}
use Rattle.scan_probes.specs.declared.filter.Beside.{Beside}

-- the conditions that a list of references to expressions stands for
abbrev pub lent_conditions : List (Bor Expr) → List Cond
lent_conditions es = map (λ e. cond e.now) es

-- the conditions of the clauses of a set, by their numbers
abbrev pub chosen_conditions : List ℕ → ClassTable → List Cond
chosen_conditions set t = conditions_from 0 (contains set) t.clauses

-- conditions can be tested at a row of the relation beside the rows given
abbrev pub AreTestedAtRow : Beside → Given → List (Bor Expr) → Values → Type 0
AreTestedAtRow b given es row = AreReadyAtRow b.cat.now b.range.now b.rel.0 given (lent_conditions es) row

-- conditions can be tested at an entry of an index on the relation beside the rows given
abbrev pub AreTestedAtEntry : Beside → Given → List (Bor Expr) → IndexDef → IndexEntry → Type 0
AreTestedAtEntry b given es d e = AreReadyAtEntry b.cat.now b.range.now b.rel.0 given (lent_conditions es) (index_of d) e

-- whether the conditions are True at that row
abbrev pub is_met_at_row : Beside → Given → List (Bor Expr) → Values → Bool
is_met_at_row b given es row = are_true (value_beside b.rel.0 (value_in row) given) (lent_conditions es)

-- whether the conditions are True at an entry, by the values that the index holds
abbrev pub is_met_at_entry : Beside → Given → List (Bor Expr) → IndexDef → IndexEntry → Bool
is_met_at_entry b given es d e = are_true (value_beside b.rel.0 (value_in_entry (index_of d) e) given) (lent_conditions es)
