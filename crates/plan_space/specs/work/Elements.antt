-- Bitmap trees held against the elements of a relation. Own.
use Rattle.std.specs.Prelude.{◌≡◌, ◌↔◌, ◌∷◌, ℕ, Bool, IsTrue, List, Option, Some, drop, map}
use Rattle.std.specs.List.{AllZip}
use Rattle.pg_base.specs.Sets.{has}
use Rattle.pg_base.specs.declared.numbers.IndexNo.{IndexNo}
use Rattle.pg_base.specs.declared.numbers.RelNo.{RelNo}
use Rattle.pg_base.specs.declared.rel_set.RelSet.{RelSet}
use Rattle.pg_expr.specs.Cond.{Cond}
use Rattle.catalog.specs.Contents.{Contents}
use Rattle.eq_classes.specs.Clauses.{Set}
use Rattle.sql_query.specs.Queries.{Query}
use Rattle.plan_tree.specs.Bitmaps.{Element, IsTreeOver, MatchesArm, condition_at, element_of, elements_of}
use Rattle.plan_tree.specs.Plans.{BitTree, all_hold}
use Rattle.plan_tree.specs.index_match_Arms.{arms_of}
use Rattle.plan_tree.specs.Space.{IsSameSet, conditions_used, others_named}
use Rattle.plan_tree.specs.work.Views.{bits, bits_all, element}
use Rattle.plan_space.specs.work.Ordered.{AreInOrder}
use Rattle.plan_tree.specs.declared.bits.BitTree.{BitTree as Tree}
use Rattle.plan_tree.specs.declared.elements.Element.{Element as Found}

-- each arm has an index that matches it, in order, and there are no others
abbrev pub AreMatched : Contents → Query → RelNo → List Cond → List IndexNo → Type 0
AreMatched c q r arms indexes = AllZip (MatchesArm c q r.0) arms indexes

-- the element that a tree is, where it is one; it is the same whatever the catalogue, the query and the relation are
abbrev pub IsElementOf : BitTree → Option Element → Type 0
IsElementOf tree found = (c : Contents) (q : Query) (r : ℕ) (p : Set) → found ≡ element_of c q r p tree

-- a tree is an element
abbrev pub IsTheElement : BitTree → Element → Type 0
IsTheElement tree e = (c : Contents) (q : Query) (r : ℕ) (p : Set) → element_of c q r p tree ≡ Some e

-- a tree is no element, or another than this one
abbrev pub IsNotTheElement : BitTree → Element → Type 0
IsNotTheElement tree e = (c : Contents) (q : Query) (r : ℕ) (p : Set) → ¬ (element_of c q r p tree ≡ Some e)

-- trees from a place on are elements of a list that begins with one, in its order, where those from the next place on are so of
-- the rest of the list
abbrev pub GoOnInOrder : List Tree → ℕ → Element → ℕ → Type 0
GoOnInOrder trees at e next = (c : Contents) (q : Query) (r : ℕ) (p : Set) (later : List Element) →
    AreInOrder (elements_of c q r p (bits_all (drop at trees))) (e ∷ later)
    ↔ AreInOrder (elements_of c q r p (bits_all (drop next trees))) later

-- a test tells whether trees are elements of a list, in its order
abbrev pub TellsOrder : List Tree → List Found → Bool → Type 0
TellsOrder trees found told = (c : Contents) (q : Query) (r : ℕ) (p : Set) →
    IsTrue told ↔ AreInOrder (elements_of c q r p (bits_all trees)) (map element found)

-- the arms of the OR clause of a number
abbrev pub arms_of_clause : Query → ℕ → List Cond
arms_of_clause q n = arms_of (condition_at q n)

-- a tree is one over the elements found
abbrev pub IsTreeOverFound : Contents → Query → RelNo → Set → List Found → Tree → Type 0
IsTreeOverFound c q r p found tree = IsTreeOver c q r.0 p (map element found) (bits tree)

-- the AND of some trees is a tree over the elements found
abbrev pub IsAndOverFound : Contents → Query → RelNo → Set → List Found → List Tree → Type 0
IsAndOverFound c q r p found trees = IsTreeOver c q r.0 p (map element found) (all_hold (bits_all trees))

-- a parameterisation is exactly the other relations that the clauses used by a tree name
abbrev pub IsNamedByTree : Contents → Query → RelNo → RelSet → BitTree → Type 0
IsNamedByTree c q r p tree = IsSameSet (has p.0) (others_named r.0 (conditions_used c q r p tree))
