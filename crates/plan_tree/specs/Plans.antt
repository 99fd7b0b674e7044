-- Plans as trees without pointers: scans of one relation, sorts and joins (PostgreSQL, src/backend/optimizer/README, Paths
-- and Join Pairs, and Parameterized Paths).
use Rattle.std.specs.Prelude.{ℕ, Bool, true, false, cond, nat_eq, List, Option, Some, None, is_some}
use Rattle.pg_base.specs.Sets.{has}
use Rattle.pg_base.specs.declared.numbers.RelNo.{RelNo}
use Rattle.pg_base.specs.declared.numbers.IndexNo.{IndexNo}
use Rattle.pg_base.specs.declared.rel_set.RelSet.{RelSet}
use Rattle.eq_classes.specs.Clauses.{Set, one, Clause}
use Rattle.eq_classes.specs.Parts.{union, is_join, is_join_param}
use Rattle.pathkeys.specs.Keys.{Keys}

mutual
  -- what a bitmap is made of: the entries of an index, what all of several hold, what some arm of the OR clause of a number
  -- holds, with an index for each arm
  pub data BitTree : Type 0 where
    leaf : IndexNo → BitTree
    all_hold : BitTrees → BitTree
    some_arm : ℕ → List IndexNo → BitTree

  pub data BitTrees : Type 0 where
    no_trees : BitTrees
    tree_and : BitTree → BitTrees → BitTrees

-- a plan: scans of one relation (by an index, backward or not), those but the sequential one with the relations of a
-- parameterisation; a sort of a plan; joins of two plans, the outer one first
pub data Plan : Type 0 where
  seq : RelNo → Plan
  index : RelNo → IndexNo → Bool → RelSet → Plan
  index_only : RelNo → IndexNo → Bool → RelSet → Plan
  bitmap : RelNo → RelSet → BitTree → Plan
  sort : Keys → Plan → Plan
  nest : Plan → Plan → Plan
  merge : Keys → Plan → Plan → Plan

-- no relation: the parameterisation of a plan that needs no rows of others
abbrev pub empty : Set
empty k = false

-- the relations that a plan reads
abbrev pub set_of : Plan → Set
set_of (seq r) = one r.0
set_of (index r i backward p) = one r.0
set_of (index_only r i backward p) = one r.0
set_of (bitmap r p bits) = one r.0
set_of (sort keys input) = set_of input
set_of (nest outer inner) = union (set_of outer) (set_of inner)
set_of (merge keys outer inner) = union (set_of outer) (set_of inner)

-- no bit of a set of relations is set: a scan with it as its parameterisation is given no rows
abbrev pub is_empty : RelSet → Bool
is_empty p = nat_eq p.0 0

-- a scan that is given rows of other relations: its relation, and its parameterisation, which is not empty
pub record GivenScan : Type 0 where
  pub relation : RelNo
  pub param : RelSet

-- a scan that is given rows, by its relation and its parameterisation; none where that is empty
abbrev pub scan_given : RelNo → RelSet → Option GivenScan
scan_given r p = cond (is_empty p) None (Some (record { relation = r; param = p }))

-- the relation and the parameterisation of a plan that is a scan with rows given; none for any other
abbrev pub given_scan : Plan → Option GivenScan
given_scan (seq r) = None
given_scan (index r i backward p) = scan_given r p
given_scan (index_only r i backward p) = scan_given r p
given_scan (bitmap r p bits) = scan_given r p
given_scan (sort keys input) = given_scan input
given_scan (nest outer inner) = None
given_scan (merge keys outer inner) = None

-- the relations whose rows a plan must be given
abbrev pub param_in : Option GivenScan → Set
param_in None = empty
param_in (Some s) = has s.param.0

-- the relations whose rows a plan must be given (required_outer): a scan's, also under a sort; a join needs none
abbrev pub param_of : Plan → Set
param_of p = param_in (given_scan p)

-- a plan must be given rows of other relations, so that a nested loop runs it for each outer row
abbrev pub has_param : Plan → Bool
has_param p = is_some (given_scan p)

-- a plan sorts at its top
abbrev pub is_sort : Plan → Bool
is_sort (sort keys input) = true
is_sort _ = false

-- the clauses that a join of a set with an inner plan tests: with a scan that is given rows, those that it has not tested
abbrev pub joins_with : Set → Set → Option GivenScan → Clause → Bool
joins_with a b None = is_join a b
joins_with a b (Some s) = is_join_param a s.relation.0 (has s.param.0)

-- the clauses that a join of an outer set with this inner plan tests, by what the inner plan was given
abbrev pub joins : Set → Plan → Clause → Bool
joins a p = joins_with a (set_of p) (given_scan p)
