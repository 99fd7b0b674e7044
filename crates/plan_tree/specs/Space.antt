-- Which plans there are (PostgreSQL, src/backend/optimizer/README, Paths and Join Pairs, and Parameterized Paths; the space
-- is own).
use Rattle.std.specs.Prelude.{◌≡◌, ◌<◌, ◌≤◌, ℕ, Bool, true, false, not, ◌&&◌, ◌||◌, nat_eq, nat_lt, List, length, take}
use Rattle.std.specs.List.{list_any, list_all}
use Rattle.pg_base.specs.Sets.{has}
use Rattle.pg_base.specs.declared.limits.TheConstants.{MOST_JOINING_CLASSES, MOST_MERGE_KEYS}
use Rattle.pg_base.specs.declared.numbers.IndexNo.{IndexNo}
use Rattle.pg_base.specs.declared.numbers.RelNo.{RelNo}
use Rattle.pg_base.specs.declared.rel_set.RelSet.{RelSet}
use Rattle.pg_expr.specs.Cond.{Cond}
use Rattle.pg_expr.specs.Columns.{names_rel}
use Rattle.sql_query.specs.catalog_Contents.{Contents, index_at}
use Rattle.eq_classes.specs.Clauses.{Set}
use Rattle.eq_classes.specs.Parts.{joining_from}
use Rattle.eq_classes.specs.Holding.{AreApart, IsWithin}
use Rattle.index_match.specs.Numbered.{Numbered, conditions_of}
use Rattle.sql_query.specs.Queries.{Query, all_of_query, width}
use Rattle.pathkeys.specs.Keys.{Keys, AreDifferent, covers, order_keys}
use Rattle.path_cost.specs.Estimates.{conditions_from}
use Rattle.index_match.specs.Conditions.{is_hash, index_conditions}
use Rattle.index_match.specs.Usable.{IsUsable, holds_columns}
use Rattle.plan_tree.specs.Plans.{Plan, seq, index, index_only, bitmap, sort, nest, merge, BitTree, set_of, param_of, is_empty, is_sort}
use Rattle.plan_tree.specs.Bitmaps.{IsIndexOn, IsBitTree, uses}
use Rattle.plan_tree.specs.Keys.{keys_of}

-- the relations other than r that conditions name
abbrev pub others_named : ℕ → List Cond → Set
others_named r es k = not (nat_eq k r) && list_any (names_rel k) es

-- two sets have the same members
abbrev pub IsSameSet : Set → Set → Type 0
IsSameSet a b = (k : ℕ) → a k ≡ b k

-- a set has no relation; as a parameterisation it says that a plan needs no rows of others
abbrev pub IsEmpty : Set → Type 0
IsEmpty a = (k : ℕ) → a k ≡ false

-- two plans are of the same set and parameterisation
pub record IsLike (p other : Plan) : Type 0 where
  pub set : IsSameSet (set_of p) (set_of other)
  pub param : IsSameSet (param_of p) (param_of other)

-- the sides of a join have no relation in common, and the outer one no parameterisation
pub record AreSides (outer inner : Plan) : Type 0 where
  pub apart : AreApart (set_of outer) (set_of inner)
  pub outer_whole : IsEmpty (param_of outer)

-- a nested loop: neither side is a sort, and the inner one's parameterisation is within the outer
pub record IsNest (outer inner : Plan) : Type 0 where
  pub sides : AreSides outer inner
  pub given : IsWithin (param_of inner) (set_of outer)
  pub outer_plain : is_sort outer ≡ false
  pub inner_plain : is_sort inner ≡ false

-- backward is for B-trees without a parameterisation
abbrev pub may_go : Bool → Bool → RelSet → Bool
may_go backward hash p = not backward || (not hash && is_empty p)

module _ (c : Contents) (q : Query) where
  -- the clauses that an index scan of the relation with this parameterisation uses inside its index, with their numbers
  -- from 0
  abbrev pub conditions_at : RelNo → IndexNo → RelSet → List Numbered
  conditions_at r i p = index_conditions c q.classes i r.0 (has p.0)

  -- the conditions of the clauses that a bitmap tree uses
  abbrev pub conditions_used : RelNo → RelSet → BitTree → List Cond
  conditions_used r p bits = conditions_from 0 (uses c q r.0 (has p.0) bits) q.classes.clauses

  -- a scan of a relation by a usable index of its table, with its conditions, also none; a hash index has one; the other
  -- relations that they name are its parameterisation
  pub record IsIndexScan (r : RelNo) (i : IndexNo) (backward : Bool) (p : RelSet) : Type 0 where
    pub relation : r.0 < width q
    pub index : IsIndexOn c q r.0 i
    pub usable : IsUsable c q.classes i r.0
    pub direction : may_go backward (is_hash (index_at c i).method) p ≡ true
    pub condition : (not (is_hash (index_at c i).method) || nat_lt 0 (length (conditions_at r i p))) ≡ true
    pub named : IsSameSet (has p.0) (others_named r.0 (conditions_of (conditions_at r i p)))

  -- an index-only scan of a relation: one by a B-tree that holds each column of the relation that the statement names
  pub record IsIndexOnlyScan (r : RelNo) (i : IndexNo) (backward : Bool) (p : RelSet) : Type 0 where
    pub scan : IsIndexScan r i backward p
    pub ordered : is_hash (index_at c i).method ≡ false
    pub columns : holds_columns (index_at c i) r.0 q.used ≡ true

  -- a scan of a relation by a bitmap tree; the other relations that the clauses used name are its parameterisation
  pub record IsBitmapScan (r : RelNo) (p : RelSet) (bits : BitTree) : Type 0 where
    pub relation : r.0 < width q
    pub tree : IsBitTree c q r.0 (has p.0) bits
    pub named : IsSameSet (has p.0) (others_named r.0 (conditions_used r p bits))

  -- 1 to MOST_MERGE_KEYS different classes of the first MOST_JOINING_CLASSES joining ones
  pub record IsMergeList (a b : Set) (keys : Keys) : Type 0 where
    pub some : 1 ≤ length keys
    pub few : length keys ≤ MOST_MERGE_KEYS
    pub different : AreDifferent keys
    pub joining : list_all (λ n. list_any (nat_eq n) (take MOST_JOINING_CLASSES (joining_from a b 0 q.classes.classes))) keys ≡ true

  -- a sort by exactly the list, or a plan whose keys begin with it
  abbrev pub HasKeys : Plan → Keys → Type 0
  HasKeys (sort ks input) keys = ks ≡ keys
  HasKeys p keys = covers (keys_of c q p) keys ≡ true

  -- a merge join: both sides are whole and have the keys
  pub record IsMerge (keys : Keys) (outer inner : Plan) : Type 0 where
    pub sides : AreSides outer inner
    pub inner_whole : IsEmpty (param_of inner)
    pub list : IsMergeList (set_of outer) (set_of inner) keys
    pub outer_keys : HasKeys outer keys
    pub inner_keys : HasKeys inner keys

  -- each node of a plan is one of these, and a sort stands on no sort
  abbrev pub IsBuilt : Plan → Type 0
  IsBuilt (seq r) = r.0 < width q
  IsBuilt (index r i backward p) = IsIndexScan r i backward p
  IsBuilt (index_only r i backward p) = IsIndexOnlyScan r i backward p
  IsBuilt (bitmap r p bits) = IsBitmapScan r p bits
  IsBuilt (sort keys input) = IsBuilt input × (is_sort input ≡ false)
  IsBuilt (nest outer inner) = IsBuilt outer × IsBuilt inner × IsNest outer inner
  IsBuilt (merge keys outer inner) = IsBuilt outer × IsBuilt inner × IsMerge keys outer inner

  -- a plan of a set with a parameterisation
  pub record IsPlanOf (set param : Set) (p : Plan) : Type 0 where
    pub built : IsBuilt p
    pub plain : is_sort p ≡ false
    pub set_is : IsSameSet (set_of p) set
    pub param_is : IsSameSet (param_of p) param

  -- sorted by the order keys where they are not empty, or with keys that begin with them
  abbrev pub MeetsOrder : Plan → Keys → Type 0
  MeetsOrder (sort ks input) keys = (ks ≡ keys) × (nat_lt 0 (length keys) ≡ true)
  MeetsOrder p keys = covers (keys_of c q p) keys ≡ true

  -- a plan of all relations in the order asked for
  pub record IsFinished (p : Plan) : Type 0 where
    pub built : IsBuilt p
    pub set_is : IsSameSet (set_of p) (all_of_query q)
    pub param_is : IsEmpty (param_of p)
    pub ordered : MeetsOrder p (order_keys q.classes q.order)
