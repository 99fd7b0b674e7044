-- The values of a row are of its columns' types.
use Rattle.std.proofs.Common.{◌≡◌, ℕ, zero, suc, List, [], ◌∷◌}
use Rattle.std.specs.Prelude.{slice_index_or}
use Rattle.std.specs.List.{AllZip}
use Rattle.pg_value.specs.declared.columns.Column.{Column}
use Rattle.pg_value.specs.declared.value.Value.{Value}
use Rattle.pg_value.specs.declared.value.Value.TheVariants.{Null, Int, Bool as Flag, Text as String}
use Rattle.pg_value.specs.Types.{IsOfType}
use Rattle.heap.specs.Stored.{Values, IsColumnValue}

-- what a column may hold is of its type
pub value_fits : (c : Column) (v : Value) → IsColumnValue c v → IsOfType c.typed v
value_fits c Null h = tt
value_fits c (Int n) h = h
value_fits c (Flag b) h = h
value_fits c (String bs) h = h.0

-- a row's values by place
pub fits-at : (cs : List Column) (vs : Values) → AllZip IsColumnValue cs vs → (k : ℕ) (d : Column) → IsOfType (slice_index_or cs k d).typed (slice_index_or vs k Null)
fits-at [] [] h k d = tt
fits-at [] (v ∷ vs) h k d = absurd h
fits-at (c ∷ cs) [] h k d = absurd h
fits-at (c ∷ cs) (v ∷ vs) h zero d = value_fits c v h.0
fits-at (c ∷ cs) (v ∷ vs) h (suc k) d = fits-at cs vs h.1 k d
