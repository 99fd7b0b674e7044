-- The keys by which a plan's rows are sorted (PostgreSQL, src/backend/optimizer/README, PathKeys).
use Rattle.std.specs.Prelude.{Bool, cond, []}
use Rattle.pg_base.specs.declared.numbers.IndexNo.{IndexNo}
use Rattle.pg_base.specs.declared.numbers.RelNo.{RelNo}
use Rattle.pg_base.specs.declared.rel_set.RelSet.{RelSet}
use Rattle.sql_query.specs.catalog_Contents.{Contents}
use Rattle.sql_query.specs.Queries.{Query}
use Rattle.pathkeys.specs.Keys.{Keys, index_keys}
use Rattle.plan_tree.specs.Plans.{Plan, seq, index, index_only, bitmap, sort, nest, merge, is_empty}

module _ (c : Contents) (q : Query) where
  -- the keys of a scan by an index: those of the index; a scan with a parameterisation has none
  abbrev pub scan_keys : RelNo → IndexNo → Bool → RelSet → Keys
  scan_keys r i backward p = cond (is_empty p) (index_keys c q.classes i r.0 backward) []

  -- the keys of a plan: those of an index scan, the list of a sort, those of a join's outer side
  abbrev pub keys_of : Plan → Keys
  keys_of (seq r) = []
  keys_of (index r i backward p) = scan_keys r i backward p
  keys_of (index_only r i backward p) = scan_keys r i backward p
  keys_of (bitmap r p bits) = []
  keys_of (sort keys input) = keys
  keys_of (nest outer inner) = keys_of outer
  keys_of (merge keys outer inner) = keys_of outer
