-- The path of a scan has the numbers of its plan.
use Rattle.std.proofs.Common.{◌≡◌, ◌<◌, ℕ, arith}
use Rattle.sql_query.specs.catalog_Contents.{Contents}
use Rattle.cost_rules.specs.declared.parameters.TheConstants.{MOST_COST}
use Rattle.cost_rules.specs.work.Costs.{capped}
use Rattle.sql_query.specs.Queries.{Query, width}
use Rattle.plan_tree.specs.Plans.{Plan, seq, index, index_only, bitmap, sort, nest, merge}
use Rattle.plan_tree.specs.work.Reads.{ReadsBelow}
use Rattle.plan_tree.specs.Space.{IsBuilt}

-- the relations of a built plan are the query's
pub built-below : (c : Contents) (q : Query) (t : Plan) → IsBuilt c q t → ReadsBelow (width q) t
built-below c q (seq r) h = h
built-below c q (index r i backward p) h = h.relation
built-below c q (index_only r i backward p) h = h.scan.relation
built-below c q (bitmap r p bits) h = h.relation
built-below c q (sort keys input) h = built-below c q input h.0
built-below c q (nest outer inner) h = (built-below c q outer h.0, built-below c q inner h.1)
built-below c q (merge keys outer inner) h = (built-below c q outer h.0, built-below c q inner h.1)

-- a cut cost below the limit is the cost
pub uncut : (n m : ℕ) → m ≡ capped n → m < MOST_COST → m ≡ n
uncut n m e lt = omega (arith, e, lt)

-- a cut cost that is not below the limit is of no admissible plan
pub cut-below : (n m : ℕ) → m ≡ capped n → n < MOST_COST → m < MOST_COST
cut-below n m e lt = omega (arith, e, lt)
