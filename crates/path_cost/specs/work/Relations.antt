-- The relations that a condition's columns are of.
use Rattle.std.specs.Prelude.{[], ◌∷◌}
use Rattle.catalog.specs.Range.{Range}
use Rattle.path_cost.specs.declared.tables.Relations.{Relations}
use Rattle.path_cost.specs.declared.tables.Relations.TheVariants.{One, Of}

-- one table as relation 0, or the relations of a query
abbrev pub range_of : Relations → Range
range_of (One t) = (t, []) ∷ []
range_of (Of range) = range.now
