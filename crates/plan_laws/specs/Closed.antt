-- Plans that are kept while joins are made of smaller ones, and when they suffice (PostgreSQL,
-- src/backend/optimizer/README, Join Tree Construction: each larger plan is made of the plans that were kept).
use Rattle.std.specs.Prelude.{Bool, true, false}
use Rattle.plan_tree.specs.catalog_Contents.{Contents}
use Rattle.plan_tree.specs.sql_query_Queries.{Query}
use Rattle.plan_tree.specs.Plans.{Plan, seq, index, index_only, bitmap, sort, nest, merge}
use Rattle.plan_tree.specs.Least.{Dominates}

-- a plan reads one relation and no other plan
abbrev pub is_scan : Plan → Bool
is_scan (seq r) = true
is_scan (index r i backward p) = true
is_scan (index_only r i backward p) = true
is_scan (bitmap r p bits) = true
is_scan _ = false

module _ (c : Contents) (q : Query) (Kept : Plan → Type 0) where
  -- a kept plan, or a sort of one
  abbrev pub IsKeptSide : Plan → Type 0
  IsKeptSide (sort keys input) = Kept input
  IsKeptSide t = Kept t

  -- both sides of a join are kept plans; under a merge join they may be sorts of kept plans
  abbrev pub AreKeptSides : Plan → Type 0
  AreKeptSides (nest outer inner) = Kept outer × Kept inner
  AreKeptSides (merge keys outer inner) = IsKeptSide outer × IsKeptSide inner
  AreKeptSides _ = ⊥

  -- some kept plan dominates a plan
  pub record IsUndercut (t : Plan) : Type 0 where
    pub by' : Plan
    pub is_kept : Kept by'
    pub dominates : Dominates c q by' t
