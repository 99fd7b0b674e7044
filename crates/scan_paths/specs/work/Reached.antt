-- The relations whose rows the scans by an index may be given, whatever conditions they have. Own.
use Rattle.std.specs.Prelude.{◌≡◌, ℕ, true, false, List, All, map, ◌&&◌, Bool, length, nat_lt}
use Rattle.pg_base.specs.Sets.{has}
use Rattle.pg_base.specs.declared.numbers.IndexNo.{IndexNo}
use Rattle.pg_base.specs.declared.numbers.RelNo.{RelNo}
use Rattle.pg_base.specs.declared.rel_set.RelSet.{RelSet}
use Rattle.catalog.specs.Contents.{Contents, indexes_of, index_at}
use Rattle.eq_classes.specs.Clauses.{Set}
use Rattle.sql_query.specs.Queries.{Query}
use Rattle.plan_tree.specs.Bitmaps.{IsIndexOn, table_of_relation}
use Rattle.plan_tree.specs.Space.{IsIndexScan}
use Rattle.scan_paths.specs.declared.reached.Reached.{Reached}
use Rattle.eq_classes.specs.Listing.{clause_at}
use Rattle.index_match.specs.Conditions.{is_condition}

-- an index may use the clause of a number on some key column
abbrev pub may_use_at : Contents → Query → RelNo → IndexNo → ℕ → Bool
may_use_at c q r i n = is_condition (index_at c i) r.0 (clause_at q.classes.clauses n).cond

-- a number is that of a clause that an index may use on some key column
abbrev pub is_clause_of_use : Contents → Query → RelNo → IndexNo → ℕ → Bool
is_clause_of_use c q r i n = nat_lt n (length q.classes.clauses) && may_use_at c q r i n

module _ (c : Contents) (q : Query) (r : RelNo) where
  -- a set has each relation whose rows a scan by an index is given
  abbrev pub IsReach : IndexNo → Set → Type 0
  IsReach i near = (p : RelSet) → IsIndexScan c q r i false p → (k : ℕ) → has p.0 k ≡ true → near k ≡ true

  -- an index of the relation's table, with such a set
  pub record IsReached (x : Reached) : Type 0 where
    pub on : IsIndexOn c q r.0 x.index
    pub others : IsReach x.index (has x.others.0)

  -- some indexes of the relation's table, in their order, each with its set
  pub record AreReachedBy (is : List IndexNo) (xs : List Reached) : Type 0 where
    pub indexes : map (λ (x : Reached). x.index) xs ≡ is
    pub each : All IsReached xs

  -- the indexes of the relation's table, in their order, each with its set
  abbrev pub AreReached : List Reached → Type 0
  AreReached xs = AreReachedBy (indexes_of c (table_of_relation q r.0)) xs
