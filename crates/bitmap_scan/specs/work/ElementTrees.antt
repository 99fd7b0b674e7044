-- What is kept of an element in its tree of least part. Own.
use Rattle.std.specs.Prelude.{◌≡◌, ◌<◌, ◌≤◌, ℕ, true, Contains, List, length, ◌||◌, ◌&&◌, ◌%◌, Bool, All, map, nat_eq, nat_lt}
use Rattle.std.specs.List.{list_any, AllZip}
use Rattle.pg_base.specs.Sets.{has}
use Rattle.pg_base.specs.declared.numbers.RelNo.{RelNo}
use Rattle.pg_base.specs.declared.rel_set.RelSet.{RelSet}
use Rattle.pg_expr.specs.work.AtomSets.{contains}
use Rattle.catalog.specs.Contents.{Contents, IsIndex}
use Rattle.eq_classes.specs.Clauses.{Set, one}
use Rattle.path_cost.specs.Estimates.{conditions_from}
use Rattle.sql_query.specs.Queries.{Query}
use Rattle.cost_rules.specs.work.Costs.{capped}
use Rattle.plan_tree.specs.Plans.{BitTree, bitmap}
use Rattle.plan_tree.specs.Bitmaps.{Element, by_index, by_clause, IsMatchedOr, condition_at, uses}
use Rattle.plan_tree.specs.Costs.{part_of}
use Rattle.plan_tree.specs.work.Paths.{Path}
use Rattle.plan_tree.specs.Space.{others_named, IsPlanOf, IsSameSet}
use Rattle.plan_tree.specs.work.Views.{bits, element, path}
use Rattle.bitmap_scan.specs.declared.element_tree.ElementTree.{ElementTree}
use Rattle.std.specs.Borrow.{Bor}
use Rattle.plan_tree.specs.work.Fronts.{HasDominating, is_bitmap}
use Rattle.plan_tree.specs.Least.{IsAdmissible}
use Rattle.plan_tree.specs.work.Lists.{AreScanOffers}
use Rattle.plan_tree.specs.declared.elements.Element.{Element as Chosen}
use Rattle.plan_tree.specs.declared.path.Path.{Path as Costed}
use Rattle.bitmap_scan.specs.work.Chosen.{IsLeastTree, combined, marked}
use Rattle.bitmap_scan.specs.declared.element_tree.Marked.{Marked}
use Rattle.bitmap_scan.specs.declared.element_tree.Place.{Place}

-- the tree that is kept
abbrev pub tree_in : ElementTree → BitTree
tree_in k = bits k.tree

-- the trees of elements that are lent
abbrev pub lent_trees : List (Bor ElementTree) → List BitTree
lent_trees ks = map (λ (k : Bor ElementTree). tree_in k.now) ks

-- the trees of the marked elements
abbrev pub marked_trees : Marked → List BitTree
marked_trees m = marked m.mask (map tree_in m.kept.now)

-- the relations that some kept elements name
abbrev pub named_in : List ElementTree → Set
named_in es k = list_any (λ (e : ElementTree). has e.named.0 k) es

-- the relations of a set, with those that an element names where the lowest digit of a number is 1
abbrev pub named_with : RelSet → ElementTree → ℕ → Set
named_with named e n k = has named.0 k || (nat_eq (n % 2) 1 && has e.named.0 k)

-- the relations that the marked elements name
abbrev pub marked_names : Marked → Set
marked_names m = named_in (marked m.mask m.kept.now)

-- a number is that of a clause that some of the elements use
abbrev pub is_clause_used : Query → List (Bor ElementTree) → ℕ → Bool
is_clause_used q chosen n = nat_lt n (length q.classes.clauses) && list_any (λ (k : Bor ElementTree). contains k.now.used n) chosen

-- a path is of the relation where the rows are given, and costs no more in all
pub record IsCheaper (at : Place) (cost : ℕ) (p : Path) : Type 0 where
  pub set : IsSameSet (has p.set.0) (one at.rel.0)
  pub param : p.param ≡ at.param
  pub cheap : p.cost ≤ cost

-- some path of a list is so
pub record HasCheaper (at : Place) (cost : ℕ) (paths : List Path) : Type 0 where
  pub path : Path
  pub is_there : Contains paths path
  pub cheaper : IsCheaper at cost path

module _ (c : Contents) (q : Query) (r : RelNo) (p : RelSet) where
  -- an index of the catalogue, or an OR clause that is matched
  abbrev pub IsMade : Element → Type 0
  IsMade (by_index i) = IsIndex c i
  IsMade (by_clause n) = (n < length q.classes.clauses) × IsMatchedOr c q r.0 (condition_at q n)

  -- the part, once cut, and the clauses are those of the tree
  pub record IsKept (k : ElementTree) : Type 0 where
    pub part : k.part ≡ capped (part_of c q r p (tree_in k))
    pub used : (n : ℕ) → contains k.used n ≡ uses c q r.0 (has p.0) (tree_in k) n
    pub within : (n : ℕ) → contains k.used n ≡ true → n < length q.classes.clauses
    pub named : (n : ℕ) → has k.named.0 n ≡ others_named r.0 (conditions_from 0 (contains k.used) q.classes.clauses) n

module _ (c : Contents) (q : Query) (at : Place) where
  -- an element is kept in its tree of least part
  abbrev pub HasLeastTree : Element → ElementTree → Type 0
  HasLeastTree e k = IsLeastTree c q at.rel at.param e (tree_in k)

  -- each of some elements, in their order, is kept in its tree of least part
  abbrev pub HaveLeastTrees : List Chosen → List ElementTree → Type 0
  HaveLeastTrees es ks = AllZip (IsLeastTree c q at.rel at.param) (map element es) (map tree_in ks)

  -- each of some trees has its part, its clauses and the relations that these name
  abbrev pub AreKeptAt : List ElementTree → Type 0
  AreKeptAt ks = All (IsKept c q at.rel at.param) ks

  -- the bitmap scan over some trees together is dominated by a path of a list, where it is of the space and admissible
  abbrev pub AreTogetherIn : List BitTree → List Costed → Type 0
  AreTogetherIn bs paths =
      IsPlanOf c q (one at.rel.0) (has at.param.0) (bitmap at.rel at.param (combined bs)) →
      IsAdmissible c q (bitmap at.rel at.param (combined bs)) → HasDominating c q (map path paths) (bitmap at.rel at.param (combined bs))

  -- the bitmap scan over the trees of lent elements together is dominated by a path of a list, where it is of the space and
  -- admissible
  abbrev pub AreLentTogether : List (Bor ElementTree) → List Costed → Type 0
  AreLentTogether chosen paths = AreTogetherIn (lent_trees chosen) paths

  -- the bitmap scan over the marked trees together is dominated by a path of a list, where it is of the space and admissible
  abbrev pub AreMarkedTogether : Marked → List Costed → Type 0
  AreMarkedTogether m paths = AreTogetherIn (marked_trees m) paths

  -- each path stood in the list before or is an offer of a bitmap scan of the relation
  abbrev pub AreBitmapOffers : List Costed → List Costed → Type 0
  AreBitmapOffers old new = AreScanOffers c q is_bitmap at.rel at.param old new
