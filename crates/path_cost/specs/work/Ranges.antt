-- Working words beside those of `Ranges`.
use Rattle.std.specs.Prelude.{List, map}
use Rattle.pg_expr.specs.Cond.{Cond}
use Rattle.pg_expr.specs.work.View as view
use Rattle.path_cost.specs.declared.ranges.Listing.{Listing}
use Rattle.path_cost.specs.declared.ranges.Listing.TheVariants.{Parts, Clauses}
use Rattle.path_cost.specs.Ranges.{conditions}

-- the conditions of a list: the parts of an AND, or the clauses of a query
abbrev pub conditions_of : Listing → List Cond
conditions_of (Parts es) = map view.cond es.now
conditions_of (Clauses t) = conditions t.now
