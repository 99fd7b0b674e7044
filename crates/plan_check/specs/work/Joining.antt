-- Which entries may be the sides of a join, by what they say. Own.
use Rattle.std.specs.Prelude.{◌≡◌, Bool, true, false}
use Rattle.pg_base.specs.Sets.{has}
use Rattle.catalog.specs.Contents.{Contents}
use Rattle.eq_classes.specs.Holding.{AreApart, IsWithin}
use Rattle.sql_query.specs.Queries.{Query}
use Rattle.pathkeys.specs.Keys.{Keys, covers}
use Rattle.plan_tree.specs.Space.{IsEmpty, IsMergeList}
use Rattle.plan_check.specs.Certificates.{Entry}

-- the sets have no relation in common, the outer entry has no parameterisation, and the inner one's is within the outer set
pub record MayNest (a b : Entry) : Type 0 where
  pub apart : AreApart (has a.set.0) (has b.set.0)
  pub whole : IsEmpty (has a.param.0)
  pub given : IsWithin (has b.param.0) (has a.set.0)

-- the sets have no relation in common, neither entry has a parameterisation, the list is one of a merge, and a side that
-- is not sorted begins with it
pub record MayMerge (c : Contents) (q : Query) (keys : Keys) (a b : Entry) (sa sb : Bool) : Type 0 where
  pub apart : AreApart (has a.set.0) (has b.set.0)
  pub outer_whole : IsEmpty (has a.param.0)
  pub inner_whole : IsEmpty (has b.param.0)
  pub list : IsMergeList c q (has a.set.0) (has b.set.0) keys
  pub outer_keys : sa ≡ false → covers a.keys keys ≡ true
  pub inner_keys : sb ≡ false → covers b.keys keys ≡ true
