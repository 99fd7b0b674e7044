-- Which bitmap trees there are, and what they use (PostgreSQL manual, Combining Multiple Indexes;
-- src/backend/optimizer/path/indxpath.c, choose_bitmap_and and generate_bitmap_or_paths; the first 8 elements are own).
use Rattle.std.specs.Prelude.{◌≡◌, ◌≤◌, ℕ, ◌||◌, Bool, true, false, nat_eq, nat_lt, List, [], ◌∷◌, ◌++◌, length, map, take, Contains, slice_get, Option, Some, None}
use Rattle.std.specs.List.{AllZip, AllByRecursion, items_where_true}
use Rattle.pg_base.specs.declared.numbers.IndexNo.{IndexNo}
use Rattle.pg_base.specs.declared.numbers.TableNo.{TableNo}
use Rattle.pg_expr.specs.Cond.{Cond, any_of, no_conds}
use Rattle.sql_query.specs.catalog_Contents.{Contents, IsIndex, index_at, indexes_of}
use Rattle.sql_query.specs.catalog_Range.{relation_at}
use Rattle.eq_classes.specs.Clauses.{Set, Clause}
use Rattle.index_match.specs.Numbered.{Numbered, has_number, local}
use Rattle.sql_query.specs.Queries.{Query}
use Rattle.index_match.specs.Conditions.{index_conditions}
use Rattle.index_match.specs.Arms.{arms_of, is_matched}
use Rattle.index_match.specs.Usable.{IsUsable}
use Rattle.plan_tree.specs.Plans.{BitTree, leaf, all_hold, some_arm, BitTrees, no_trees, tree_and}

-- how many elements may be combined
abbrev pub MOST_ELEMENTS : ℕ
MOST_ELEMENTS = 8

-- ys are the elements of xs of which P holds, in their order
pub data ArePicked {X : Type 0} (P : X → Type 0) : List X → List X → Type 0 where
  none_left : ArePicked P [] []
  picked : (x : X) (xs ys : List X) → P x → ArePicked P xs ys → ArePicked P (x ∷ xs) (x ∷ ys)
  passed : (x : X) (xs ys : List X) → ¬ P x → ArePicked P xs ys → ArePicked P (x ∷ xs) ys

-- what a bitmap may be made of: an index, or an OR clause by its number
pub data Element : Type 0 where
  by_index : IndexNo → Element
  by_clause : ℕ → Element

-- the table of a relation
abbrev pub table_of_relation : Query → ℕ → TableNo
table_of_relation q r = (relation_at q.range (record { 0 = r })).0

-- an index of a relation's table
pub record IsIndexOn (c : Contents) (q : Query) (r : ℕ) (i : IndexNo) : Type 0 where
  pub made : IsIndex c i
  pub table : (index_at c i).table ≡ table_of_relation q r

-- a usable index of the relation's table that wholly matches an arm
pub record MatchesArm (c : Contents) (q : Query) (r : ℕ) (arm : Cond) (i : IndexNo) : Type 0 where
  pub index : IsIndexOn c q r i
  pub usable : IsUsable c q.classes i r
  pub matched : is_matched (index_at c i) r arm ≡ true

-- each of some arms is matched by some index
abbrev pub AreMatchedArms : Contents → Query → ℕ → List Cond → Type 0
AreMatchedArms c q r arms = AllByRecursion (λ arm. (i : IndexNo) × MatchesArm c q r arm i) arms

-- a condition is an OR, which bitmaps of its arms may serve (generate_bitmap_or_paths)
abbrev pub is_or : Cond → Bool
is_or (any_of es) = true
is_or _ = false

-- an OR each of whose arms some index matches
pub record IsMatchedOr (c : Contents) (q : Query) (r : ℕ) (e : Cond) : Type 0 where
  pub is_an_or : is_or e ≡ true
  pub arms : AreMatchedArms c q r (arms_of e)

-- the condition of a clause, by its number; an OR of nothing where there is none
abbrev pub condition_by : Option Clause → Cond
condition_by None = any_of no_conds
condition_by (Some k) = k.cond

-- the condition of the clause of a number, from 0, of the query
abbrev pub condition_at : Query → ℕ → Cond
condition_at q n = condition_by (slice_get q.classes.clauses n)

module _ (c : Contents) (q : Query) (r : ℕ) (p : Set) where
  -- an index is an element where it is usable and has a condition; a clause where it is an OR that is matched
  abbrev pub IsElement : Element → Type 0
  IsElement (by_index i) = IsUsable c q.classes i r × (nat_lt 0 (length (index_conditions c q.classes i r p)) ≡ true)
  IsElement (by_clause n) = IsMatchedOr c q r (condition_at q n)

  -- the indexes of the table in order of making, then the clauses of the relation and its parameterisation by number
  abbrev pub candidates : List Element
  candidates = map by_index (indexes_of c (table_of_relation q r)) ++ map (λ (k : Numbered). by_clause k.number) (local q.classes r p)

  -- a list has exactly those candidates that are elements, in their order
  abbrev pub AreElements : List Element → Type 0
  AreElements es = ArePicked IsElement candidates es

  -- the element that a tree is; an AND is none
  abbrev pub element_of : BitTree → Option Element
  element_of (leaf i) = Some (by_index i)
  element_of (all_hold bs) = None
  element_of (some_arm n is) = Some (by_clause n)

  -- the element that each tree of a list is, in order; none where one is an AND
  abbrev pub elements_of : BitTrees → List (Option Element)
  elements_of no_trees = []
  elements_of (tree_and b bs) = element_of b ∷ elements_of bs

  -- for each arm one matching index, any
  abbrev pub HasArms : BitTree → Type 0
  HasArms (leaf i) = Unit {0}
  HasArms (all_hold bs) = ⊥
  HasArms (some_arm n is) = AllZip (MatchesArm c q r) (arms_of (condition_at q n)) is

  -- each part of an AND is an index, or an OR with a matching index for each arm; none is itself an AND
  abbrev pub HaveArms : BitTrees → Type 0
  HaveArms no_trees = Unit {0}
  HaveArms (tree_and b bs) = HasArms b × HaveArms bs

  -- one of some elements, or an AND of two or more of them in their order
  abbrev pub IsTreeOver : List Element → BitTree → Type 0
  IsTreeOver es (leaf i) = Contains es (by_index i)
  IsTreeOver es (some_arm n is) = Contains es (by_clause n) × HasArms (some_arm n is)
  IsTreeOver es (all_hold bs) = (mask : List Bool) × (elements_of bs ≡ map Some (items_where_true mask es)) × (2 ≤ length (elements_of bs)) × HaveArms bs

  -- a bitmap tree: over the first 8 elements
  pub record IsBitTree (bits : BitTree) : Type 0 where
    pub elements : List Element
    pub are : AreElements elements
    pub over : IsTreeOver (take MOST_ELEMENTS elements) bits

  -- the numbers of the clauses that a tree uses: the conditions of its leaves, and the clauses of its ORs
  abbrev mutual
    pub uses : BitTree → ℕ → Bool
    uses (leaf i) n = has_number (index_conditions c q.classes i r p) n
    uses (all_hold bs) n = some_uses bs n
    uses (some_arm m is) n = nat_eq n m

    pub some_uses : BitTrees → ℕ → Bool
    some_uses no_trees n = false
    some_uses (tree_and b bs) n = uses b n || some_uses bs n
