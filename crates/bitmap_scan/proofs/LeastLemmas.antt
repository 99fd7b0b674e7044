-- The trees of least part of some elements use what any trees of these elements use, and their parts together are not above.
use Rattle.std.proofs.Common.{◌≡◌, ◌≤◌, ℕ, suc, ◌+◌, Bool, ◌||◌, nat_eq, List, [], ◌∷◌, length, map, sum, refl, ◌∙◌, ap, ap₂, subst, arith, le_refl}
use Rattle.std.specs.Prelude.{Contains, Option, Some}
use Rattle.std.specs.List.{AllZip, items_where_true}
use Rattle.std.proofs.lemmas.List.{length-map}
use Rattle.std.proofs.lemmas.List.Sums.{sum_by-cons}
use Rattle.pg_base.specs.Sets.{has}
use Rattle.pg_base.specs.declared.numbers.RelNo.{RelNo}
use Rattle.pg_base.specs.declared.rel_set.RelSet.{RelSet}
use Rattle.catalog.specs.Contents.{Contents}
use Rattle.sql_query.specs.Queries.{Query}
use Rattle.cost_rules.specs.work.Costs.{capped}
use Rattle.index_match.specs.Conditions.{index_conditions}
use Rattle.index_match.specs.Numbered.{has_number}
use Rattle.plan_tree.specs.Plans.{BitTree, leaf, all_hold, some_arm, BitTrees, no_trees, tree_and}
use Rattle.plan_tree.specs.Bitmaps.{Element, by_index, by_clause, HasArms, HaveArms, IsTreeOver, element_of, elements_of, uses, some_uses}
use Rattle.plan_tree.specs.Costs.{part_of, parts_of_all, together}
use Rattle.plan_tree.specs.work.Views.{trees_of}
use Rattle.bitmap_scan.specs.work.Chosen.{combined, IsLeastTree}
use Rattle.bitmap_scan.proofs.MarkedLemmas.{choice-of-one, chosen-is-there, where-zip}
use Rattle.pg_base.proofs.ListLemmas.{zip-length}
use Rattle.pg_base.proofs.ListLemmas.{sum-cons}

-- cut numbers add up in order
pub capped-sum : (a b c d : ℕ) → capped a ≤ capped c → capped b ≤ capped d → capped (a + b) ≤ capped (c + d)
capped-sum a b c d h k = omega (arith, h, k)

pub capped-cons : (a c : ℕ) (us vs : List ℕ) → capped a ≤ capped c → capped (sum us) ≤ capped (sum vs) → capped (sum (a ∷ us)) ≤ capped (sum (c ∷ vs))
capped-cons a c us vs h k = let e = sum-cons a us in let f = sum-cons c vs in let g = capped-sum a (sum us) c (sum vs) h k in omega (arith, e, f, g)

pub capped-together : (us vs : List ℕ) → length us ≡ length vs → capped (sum us) ≤ capped (sum vs) → capped (together us) ≤ capped (together vs)
capped-together us vs e h = omega (arith, e, h)

module _ (c : Contents) (q : Query) (r : RelNo) (p : RelSet) where
  -- what a tree that is an element uses depends on the element alone
  uses-element : (a b : BitTree) (e : Element) → element_of c q r.0 (has p.0) a ≡ Some e → element_of c q r.0 (has p.0) b ≡ Some e → (n : ℕ) → uses c q r.0 (has p.0) a n ≡ uses c q r.0 (has p.0) b n
  uses-element (leaf i) (leaf j) e h k n = let same : i ≡ j = cc in ap (λ x. has_number (index_conditions c q.classes x r.0 (has p.0)) n) same
  uses-element (leaf i) (all_hold bs) e h k n = cc
  uses-element (leaf i) (some_arm m is) e h k n = cc
  uses-element (all_hold bs) b e h k n = cc
  uses-element (some_arm m is) (leaf j) e h k n = cc
  uses-element (some_arm m is) (all_hold bs) e h k n = cc
  uses-element (some_arm m is) (some_arm l js) e h k n = let same : m ≡ l = cc in ap (nat_eq n) same

  -- one tree uses what the other does, and its part, once cut, is not above the other's
  pub record IsUnder (a b : BitTree) : Type 0 where
    pub used : (n : ℕ) → uses c q r.0 (has p.0) a n ≡ uses c q r.0 (has p.0) b n
    pub part : capped (part_of c q r p a) ≤ capped (part_of c q r p b)

  -- one list of trees uses what the other does, and its part, once cut, is not above the other's
  record AreUnder (us bs : BitTrees) : Type 0 where
    used : (n : ℕ) → some_uses c q r.0 (has p.0) us n ≡ some_uses c q r.0 (has p.0) bs n
    parts : capped (sum (parts_of_all c q r p us)) ≤ capped (sum (parts_of_all c q r p bs))
    many : length (parts_of_all c q r p us) ≡ length (parts_of_all c q r p bs)

  none-under : AreUnder no_trees no_trees
  none-under = record { used = λ n. refl; parts = le_refl (capped (sum (parts_of_all c q r p no_trees))); many = refl }

  more-under : (a b : BitTree) (us bs : BitTrees) → IsUnder a b → AreUnder us bs → AreUnder (tree_and a us) (tree_and b bs)
  more-under a b us bs h k = record {
    used = λ n. ap₂ (λ (x y : Bool). x || y) (h.used n) (k.used n);
    parts = capped-cons (part_of c q r p a) (part_of c q r p b) (parts_of_all c q r p us) (parts_of_all c q r p bs) h.part k.parts;
    many = ap suc k.many;
  }

  least-under : (e : Element) (t b : BitTree) → IsLeastTree c q r p e t → element_of c q r.0 (has p.0) b ≡ Some e → HasArms c q r.0 (has p.0) b → IsUnder t b
  least-under e t b h k arms = record { used = uses-element t b e h.element k; part = h.least b k arms }

  trees-under : (bs : BitTrees) (es : List Element) (ts : List BitTree) → elements_of c q r.0 (has p.0) bs ≡ map Some es → HaveArms c q r.0 (has p.0) bs → AllZip (IsLeastTree c q r p) es ts → AreUnder (trees_of ts) bs
  trees-under no_trees [] [] e arms z = none-under
  trees-under no_trees [] (t ∷ ts) e arms z = absurd z
  trees-under no_trees (x ∷ es) ts e arms z = absurd (cc)
  trees-under (tree_and b bs) [] ts e arms z = absurd (cc)
  trees-under (tree_and b bs) (x ∷ es) [] e arms z = absurd z
  trees-under (tree_and b bs) (x ∷ es) (t ∷ ts) e arms z =
      let first : element_of c q r.0 (has p.0) b ≡ Some x = cc in
      let rest : elements_of c q r.0 (has p.0) bs ≡ map Some es = cc in
      more-under t b (trees_of ts) bs (least-under x t b z.0 first arms.0) (trees-under bs es ts rest arms.1 z.1)

  -- the tree of one element
  one-under : (e : Element) (ts : List BitTree) (b : BitTree) → AllZip (IsLeastTree c q r p) (e ∷ []) ts → element_of c q r.0 (has p.0) b ≡ Some e → HasArms c q r.0 (has p.0) b → IsUnder (combined ts) b
  one-under e [] b z k arms = absurd z
  one-under e (t ∷ []) b z k arms = least-under e t b z.0 k arms
  one-under e (t ∷ (u ∷ us)) b z k arms = absurd z.1

  -- the tree of several elements
  several-under : (es : List Element) (ts : List BitTree) (bs : BitTrees) → AllZip (IsLeastTree c q r p) es ts → elements_of c q r.0 (has p.0) bs ≡ map Some es → 2 ≤ length (elements_of c q r.0 (has p.0) bs) → HaveArms c q r.0 (has p.0) bs → IsUnder (combined ts) (all_hold bs)
  several-under [] [] bs z e two arms = absurd (let h = ap length e in omega (arith, h, two))
  several-under [] (t ∷ ts) bs z e two arms = absurd z
  several-under (x ∷ es) [] bs z e two arms = absurd z
  several-under (x ∷ []) (t ∷ []) bs z e two arms = absurd (let h = ap length e in omega (arith, h, two))
  several-under (x ∷ (y ∷ es)) (t ∷ []) bs z e two arms = absurd z.1
  several-under (x ∷ es) (t ∷ (u ∷ us)) bs z e two arms =
      let all = trees-under bs (x ∷ es) (t ∷ (u ∷ us)) e arms z in
      record { used = all.used; part = capped-together (parts_of_all c q r p (trees_of (t ∷ (u ∷ us)))) (parts_of_all c q r p bs) all.many all.parts }

  -- each tree over some elements is above the combined trees of least part of some of them
  pub record Chooses (ts : List BitTree) (b : BitTree) : Type 0 where
    pub mask : List Bool
    pub some : 1 ≤ length (items_where_true mask ts)
    pub under : IsUnder (combined (items_where_true mask ts)) b

  choose-one : (es : List Element) (ts : List BitTree) (b : BitTree) (e : Element) → AllZip (IsLeastTree c q r p) es ts → Contains es e → element_of c q r.0 (has p.0) b ≡ Some e → HasArms c q r.0 (has p.0) b → Chooses ts b
  choose-one es ts b e z h k arms =
      let one = choice-of-one e es h in
      let P : List Element → Type 0 = λ xs. AllZip (IsLeastTree c q r p) xs (items_where_true one.0 ts) in
      let zip = subst P one.1 (where-zip (IsLeastTree c q r p) one.0 es ts z) in
      let many = zip-length (IsLeastTree c q r p) (e ∷ []) (items_where_true one.0 ts) zip in
      record { mask = one.0; some = omega (arith, many); under = one-under e (items_where_true one.0 ts) b zip k arms }

  pub chosen-under : (es : List Element) (ts : List BitTree) (b : BitTree) → AllZip (IsLeastTree c q r p) es ts → IsTreeOver c q r.0 (has p.0) es b → Chooses ts b
  chosen-under es ts (leaf i) z over = choose-one es ts (leaf i) (by_index i) z over refl tt
  chosen-under es ts (some_arm n is) z over = choose-one es ts (some_arm n is) (by_clause n) z over.0 refl over.1
  chosen-under es ts (all_hold bs) z over =
      let chosen = items_where_true over.0 es in
      let zip = where-zip (IsLeastTree c q r p) over.0 es ts z in
      let many = zip-length (IsLeastTree c q r p) chosen (items_where_true over.0 ts) zip in
      let same = ap length over.1 ∙ length-map chosen Some in
      record { mask = over.0; some = omega (arith, many, same, over.2); under = several-under chosen (items_where_true over.0 ts) bs zip over.1 over.2 over.3 }

  -- trees of least part have the elements and the arms
  trees-elements : (es : List Element) (ts : List BitTree) → AllZip (IsLeastTree c q r p) es ts → elements_of c q r.0 (has p.0) (trees_of ts) ≡ map Some es
  trees-elements [] [] z = refl
  trees-elements [] (t ∷ ts) z = absurd z
  trees-elements (x ∷ es) [] z = absurd z
  trees-elements (x ∷ es) (t ∷ ts) z = ap₂ (λ (x : Option Element) (xs : List (Option Element)). x ∷ xs) z.0.element (trees-elements es ts z.1)

  trees-arms : (es : List Element) (ts : List BitTree) → AllZip (IsLeastTree c q r p) es ts → HaveArms c q r.0 (has p.0) (trees_of ts)
  trees-arms [] [] z = tt
  trees-arms [] (t ∷ ts) z = absurd z
  trees-arms (x ∷ es) [] z = absurd z
  trees-arms (x ∷ es) (t ∷ ts) z = (z.0.arms, trees-arms es ts z.1)

  trees-many : (ts : List BitTree) → length (elements_of c q r.0 (has p.0) (trees_of ts)) ≡ length ts
  trees-many [] = refl
  trees-many (t ∷ ts) = ap suc (trees-many ts)

  over-one : (es : List Element) (e : Element) (t : BitTree) → Contains es e → element_of c q r.0 (has p.0) t ≡ Some e → HasArms c q r.0 (has p.0) t → IsTreeOver c q r.0 (has p.0) es t
  over-one es e (leaf i) h k arms = let same : e ≡ by_index i = cc in subst (Contains es) same h
  over-one es e (all_hold bs) h k arms = absurd arms
  over-one es e (some_arm n is) h k arms = let same : e ≡ by_clause n = cc in (subst (Contains es) same h, arms)

  over-chosen : (es xs : List Element) (m : List Bool) (ts : List BitTree) → xs ≡ items_where_true m es → AllZip (IsLeastTree c q r p) xs ts → 1 ≤ length ts → IsTreeOver c q r.0 (has p.0) es (combined ts)
  over-chosen es xs m [] e z some = absurd (omega (arith, some))
  over-chosen es [] m (t ∷ []) e z some = absurd z
  over-chosen es (x ∷ []) m (t ∷ []) e z some =
      over-one es x t (chosen-is-there x m es (subst (λ (l : List Element). Contains l x) e (0, omega arith, refl))) z.0.element z.0.arms
  over-chosen es (x ∷ (y ∷ xs)) m (t ∷ []) e z some = absurd z.1
  over-chosen es xs m (t ∷ (u ∷ us)) e z some =
      let all = t ∷ (u ∷ us) in
      let many = trees-many all in
      (m, trees-elements xs all z ∙ ap (map Some) e, omega (arith, many), trees-arms xs all z)

  -- the combined trees of least part of some elements are a tree over the elements
  pub chosen-over : (es : List Element) (m : List Bool) (ts : List BitTree) → AllZip (IsLeastTree c q r p) (items_where_true m es) ts → 1 ≤ length ts → IsTreeOver c q r.0 (has p.0) es (combined ts)
  chosen-over es m ts z some = over-chosen es (items_where_true m es) m ts refl z some
