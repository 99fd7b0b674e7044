-- Elements of bitmaps with what each set of them needs, and the scans over such sets. Own.
use Rattle.std.specs.Prelude.{◌≡◌, ◌<◌, ℕ, true, List, length, map, take, cond, ◌++◌, [], ◌∷◌, Bool, ◌&&◌, nat_lt}
use Rattle.std.specs.List.{AllZip, list_any}
use Rattle.pg_base.specs.Sets.{has}
use Rattle.pg_base.specs.declared.numbers.RelNo.{RelNo}
use Rattle.pg_base.specs.declared.rel_set.RelSet.{RelSet}
use Rattle.pg_expr.specs.work.AtomSets.{contains}
use Rattle.catalog.specs.Contents.{Contents}
use Rattle.cost_rules.specs.work.Costs.{capped}
use Rattle.sql_query.specs.Queries.{Query}
use Rattle.plan_tree.specs.Bitmaps.{AreElements, Element, MOST_ELEMENTS, uses}
use Rattle.plan_tree.specs.Costs.{part_of, together}
use Rattle.plan_tree.specs.Plans.{BitTree, bitmap}
use Rattle.plan_tree.specs.work.Views.{element}
use Rattle.bitmap_scan.specs.work.Chosen.{IsLeastTree, combined, marked}
use Rattle.plan_check.specs.Certificates.{Certificate}
use Rattle.join_cover.specs.work.Serving.{IsServed}
use Rattle.scan_cover.specs.declared.kept.Kept.{Kept}
use Rattle.plan_check.specs.Plains.{arms_in}
use Rattle.scan_cover.specs.work.Arms.{PutsIndexes}
use Rattle.scan_cover.specs.work.Limits.{arms_of_all}
use Rattle.scan_cover.specs.declared.filling.Arms.{Arms}
use Rattle.scan_cover.specs.declared.masks.Given.{Given}

-- the element of what is kept
abbrev pub element_in : Kept → Element
element_in k = element k.element

module _ (c : Contents) (q : Query) (r : RelNo) (p : RelSet) where
  -- the part, once cut, and the clauses are those of a tree of least part of the element
  pub record IsKept (k : Kept) (b : BitTree) : Type 0 where
    pub least : IsLeastTree c q r p (element_in k) b
    pub part : k.part ≡ capped (part_of c q r p b)
    pub used : (n : ℕ) → contains k.used n ≡ uses c q r.0 (has p.0) b n
    pub within : (n : ℕ) → contains k.used n ≡ true → n < length q.classes.clauses

  -- some elements are the first ones
  pub record AreFirst (ks : List Kept) : Type 0 where
    pub elements : List Element
    pub are : AreElements c q r.0 (has p.0) elements
    pub first : map element_in ks ≡ take MOST_ELEMENTS elements

  -- each in some such tree
  pub record AreKept (ks : List Kept) : Type 0 where
    pub trees : List BitTree
    pub each : AllZip IsKept ks trees

  -- the scans over the elements that a number marks, in any such trees, are dominated
  abbrev pub IsMarkServed : Certificate → List Kept → ℕ → Type 0
  IsMarkServed t ks n = (bs : List BitTree) → AllZip IsKept (marked n ks) bs → IsServed c q t (bitmap r p (combined bs))

  -- all scans by a bitmap, where the rows of the parameterisation are given, are dominated
  abbrev pub AreBitmapsServed : Certificate → Type 0
  AreBitmapsServed t = (b : BitTree) → IsServed c q t (bitmap r p b)

-- all scans by a bitmap of a relation, whatever rows are given
abbrev pub AreRelationBitmapsServed : Contents → Query → Certificate → RelNo → Type 0
AreRelationBitmapsServed c q t r = (p : RelSet) → AreBitmapsServed c q r p t

-- all scans by a bitmap of all relations, whatever rows are given
abbrev pub AreAllBitmapsServed : Contents → Query → Certificate → Type 0
AreAllBitmapsServed c q t = (r : RelNo) → AreRelationBitmapsServed c q t r

-- the arms of a tree of least part of an element were put behind those in an array
abbrev pub PutsArms : Contents → Query → Given → Kept → Arms → Arms → Type 0
PutsArms c q at k old new = (b : BitTree) × IsKept c q at.rel at.param k b × PutsIndexes old new (arms_in b)

-- the arms of trees of least part of several elements were put behind those in an array
abbrev pub PutsAllArms : Contents → Query → Given → List Kept → Arms → Arms → Type 0
PutsAllArms c q at ks old new =
    (bs : List BitTree) × AllZip (IsKept c q at.rel at.param) ks bs × PutsIndexes old new (arms_of_all bs)

-- some parts together, cut, and how many they are: with one more, where it is taken, they are this much
abbrev pub AddsPart : ℕ × ℕ → ℕ → Bool → ℕ → Type 0
AddsPart sum part is new = (ns : List ℕ) → sum.0 ≡ capped (together ns) → sum.1 ≡ length ns →
    new ≡ capped (together (ns ++ cond is (part ∷ []) []))

-- the clauses that some elements use
abbrev pub AreUsedByKept : Query → List Kept → List ℕ → Type 0
AreUsedByKept q ks used = (n : ℕ) → contains used n ≡ nat_lt n (length q.classes.clauses) && list_any (λ k. contains k.used n) ks
