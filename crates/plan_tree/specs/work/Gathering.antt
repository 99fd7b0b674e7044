-- Elements of bitmaps gathered from the left of what they are picked from. Own.
use Rattle.std.specs.Prelude.{◌≡◌, List, ◌++◌, take, [], map}
use Rattle.plan_tree.specs.Bitmaps.{Element, MOST_ELEMENTS, ArePicked, IsElement, by_index, by_clause, table_of_relation}
use Rattle.pg_base.specs.Sets.{has}
use Rattle.pg_base.specs.declared.numbers.RelNo.{RelNo}
use Rattle.pg_base.specs.declared.rel_set.RelSet.{RelSet}
use Rattle.sql_query.specs.catalog_Contents.{Contents, indexes_of}
use Rattle.sql_query.specs.Queries.{Query}
use Rattle.index_match.specs.Numbered.{Numbered, local}

-- of some candidates all but the rest are judged: those found, followed by what is picked from the rest, are what is
-- picked from all, and the first of them are kept
pub record Gathered (P : Element → Type 0) (all rest kept : List Element) : Type 0 where
  pub found : List Element
  pub first : kept ≡ take MOST_ELEMENTS found
  pub completes : (more : List Element) → ArePicked P rest more → ArePicked P all (found ++ more)

-- elements of a relation with a parameterisation gathered so
abbrev pub GatheredAt : Contents → Query → RelNo → RelSet → List Element → List Element → List Element → Type 0
GatheredAt c q r p all rest kept = Gathered (IsElement c q r.0 (has p.0)) all rest kept

-- the indexes of the relation's table are judged
abbrev pub GathersIndexes : Contents → Query → RelNo → RelSet → List Element → List Element → Type 0
GathersIndexes c q r p old new =
    (all rest : List Element) →
    GatheredAt c q r p all (map by_index (indexes_of c (table_of_relation q r.0)) ++ rest) old →
    GatheredAt c q r p all rest new

-- the clauses of the relation and its parameterisation are judged, and nothing is left
abbrev pub GathersClauses : Contents → Query → RelNo → RelSet → List Element → List Element → Type 0
GathersClauses c q r p old new =
    (all : List Element) →
    GatheredAt c q r p all (map (λ (k : Numbered). by_clause k.number) (local q.classes r.0 (has p.0))) old →
    GatheredAt c q r p all [] new
