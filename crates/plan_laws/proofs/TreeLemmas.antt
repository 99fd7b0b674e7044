-- Bitmap trees with other numbers of indexes: they are trees over the elements moved, use the same clauses and cost the same.
use Prim.Native.Nat.{suc}
use Rattle.std.proofs.Common.{◌≡◌, ◌<◌, ◌≤◌, ℕ, Bool, true, false, ◌||◌, nat_eq, nat_lt, List, [], ◌∷◌, ◌++◌, length, map, take, refl, sym, ap, ap₂, ◌∙◌, subst, inl, inr}
use Rattle.std.specs.Prelude.{Option, Some}
use Rattle.std.specs.Option.{option_map}
use Rattle.std.specs.List.{AllZip, AllByRecursion, items_where_true}
use Rattle.std.proofs.lemmas.List.{take-map}
use Rattle.std.proofs.lemmas.Bool.{eq-eqb, or_right}
use Rattle.pg_base.specs.Sets.{has}
use Rattle.pg_base.specs.declared.numbers.IndexNo.{IndexNo}
use Rattle.pg_base.specs.declared.numbers.RelNo.{RelNo}
use Rattle.pg_base.specs.declared.rel_set.RelSet.{RelSet}
use Rattle.pg_expr.specs.Cond.{Cond}
use Rattle.catalog.specs.Contents.{Contents, TableDef, NamedIndex, indexes_of}
use Rattle.catalog.specs.Indexes.{Index}
use Rattle.eq_classes.specs.Clauses.{Set}
use Rattle.index_match.specs.Arms.{arms_of, is_matched}
use Rattle.index_match.specs.Numbered.{Numbered, has_number, local}
use Rattle.sql_query.specs.Queries.{Query, width}
use Rattle.plan_tree.specs.Plans.{BitTree, leaf, all_hold, some_arm, BitTrees, no_trees, tree_and}
use Rattle.plan_tree.specs.Bitmaps.{Element, by_index, by_clause, ArePicked, none_left, picked, passed, MOST_ELEMENTS, IsIndexOn, MatchesArm, IsMatchedOr, IsBitTree, IsTreeOver, IsElement, HasArms, HaveArms, element_of, elements_of, condition_at, candidates, table_of_relation, uses, some_uses}
use Rattle.plan_tree.specs.Costs.{part_of, parts_of_all, parts_of_arms, together}
use Rattle.plan_tree.proofs.ElementLemmas.{is-listed, listed-on}
use Rattle.plan_tree.proofs.CostableLemmas.{In, in-taken, in-contained, in-masked, in-picked, index-listed}
use Rattle.plan_tree.proofs.FrontLemmas.{contains-mapped}
use Rattle.plan_laws.specs.work.Fewer.{Keeps}
use Rattle.plan_laws.specs.Moved.{over}
use Rattle.plan_laws.specs.work.Moved.{Moves, tree_moved, trees_moved, element_moved}
use Rattle.plan_laws.proofs.IndexLemmas.{conditions-same, usable-same, usable-back, leaf-same, arm-same}

module _ (c : Contents) (q : Query) (r : ℕ) where
  -- the indexes of a tree are ones of the table, and those of its arms match these
  abbrev mutual
    pub IsOnTree : BitTree → Type 0
    IsOnTree (leaf i) = IsIndexOn c q r i
    IsOnTree (all_hold bs) = AreOnTrees bs
    IsOnTree (some_arm n is) = AllZip (MatchesArm c q r) (arms_of (condition_at q n)) is

    pub AreOnTrees : BitTrees → Type 0
    AreOnTrees no_trees = Unit {0}
    AreOnTrees (tree_and t bs) = IsOnTree t × AreOnTrees bs

-- lists of elements, moved
module _ (f : IndexNo → IndexNo) where
  clauses-moved : (cs : List Numbered) → map (λ (k : Numbered). by_clause k.number) cs ≡ map (element_moved f) (map (λ (k : Numbered). by_clause k.number) cs)
  clauses-moved [] = refl
  clauses-moved (k ∷ cs) = ap (λ (xs : List Element). by_clause k.number ∷ xs) (clauses-moved cs)

  all-moved : (is : List IndexNo) (cs : List Numbered) → map by_index (map f is) ++ map (λ (k : Numbered). by_clause k.number) cs ≡ map (element_moved f) (map by_index is ++ map (λ (k : Numbered). by_clause k.number) cs)
  all-moved [] cs = clauses-moved cs
  all-moved (i ∷ is) cs = ap (λ (xs : List Element). by_index (f i) ∷ xs) (all-moved is cs)

  masked-moved : (mask : List Bool) (xs : List Element) → map (element_moved f) (items_where_true mask xs) ≡ items_where_true mask (map (element_moved f) xs)
  masked-moved [] xs = refl
  masked-moved (b ∷ bs) [] = refl
  masked-moved (true ∷ bs) (x ∷ xs) = ap (λ (ys : List Element). element_moved f x ∷ ys) (masked-moved bs xs)
  masked-moved (false ∷ bs) (x ∷ xs) = masked-moved bs xs

  some-moved : (xs : List Element) → map (option_map (element_moved f)) (map Some xs) ≡ map Some (map (element_moved f) xs)
  some-moved [] = refl
  some-moved (x ∷ xs) = ap (λ (ys : List (Option Element)). Some (element_moved f x) ∷ ys) (some-moved xs)

  length-moved : (xs : List (Option Element)) → length (map (option_map (element_moved f)) xs) ≡ length xs
  length-moved [] = refl
  length-moved (x ∷ xs) = ap suc (length-moved xs)

module _ (tables : List TableDef) (a b : List NamedIndex) (q : Query) (f : IndexNo → IndexNo) (m : Moves (over tables a) (over tables b) q f) (r : ℕ) (lt : r < width q) where
  arm-there : (arm : Cond) (i : IndexNo) → MatchesArm (over tables a) q r arm i → MatchesArm (over tables b) q r arm (f i)
  arm-there arm i h = record {
    index = m.there r i lt h.index;
    usable = usable-same tables a b i (f i) (m.same r i lt h.index) q.classes r h.usable;
    matched = ap (λ (d : Index). is_matched d r arm) (m.same r i lt h.index) ∙ h.matched;
  }

  arm-from : (arm : Cond) (i : IndexNo) → IsIndexOn (over tables a) q r i → MatchesArm (over tables b) q r arm (f i) → MatchesArm (over tables a) q r arm i
  arm-from arm i on h = record {
    index = on;
    usable = usable-back tables a b i (f i) (m.same r i lt on) q.classes r h.usable;
    matched = sym (ap (λ (d : Index). is_matched d r arm) (m.same r i lt on)) ∙ h.matched;
  }

  arm-back : (arm : Cond) (j : IndexNo) → MatchesArm (over tables b) q r arm j → (i : IndexNo) × MatchesArm (over tables a) q r arm i
  arm-back arm j h = let s = m.back r j lt h.index in (s.number, arm-from arm s.number s.on (subst (MatchesArm (over tables b) q r arm) (sym s.taken) h))

  arms-there : (es : List Cond) → AllByRecursion (λ arm. (i : IndexNo) × MatchesArm (over tables a) q r arm i) es → AllByRecursion (λ arm. (i : IndexNo) × MatchesArm (over tables b) q r arm i) es
  arms-there [] h = tt
  arms-there (e ∷ es) h = ((f h.0.0, arm-there e h.0.0 h.0.1), arms-there es h.1)

  arms-back : (es : List Cond) → AllByRecursion (λ arm. (i : IndexNo) × MatchesArm (over tables b) q r arm i) es → AllByRecursion (λ arm. (i : IndexNo) × MatchesArm (over tables a) q r arm i) es
  arms-back [] h = tt
  arms-back (e ∷ es) h = (arm-back e h.0.0 h.0.1, arms-back es h.1)

  or-there : (e : Cond) → IsMatchedOr (over tables a) q r e → IsMatchedOr (over tables b) q r e
  or-there e h = record { is_an_or = h.is_an_or; arms = arms-there (arms_of e) h.arms }

  or-back : (e : Cond) → IsMatchedOr (over tables b) q r e → IsMatchedOr (over tables a) q r e
  or-back e h = record { is_an_or = h.is_an_or; arms = arms-back (arms_of e) h.arms }

  zip-there : (arms : List Cond) (is : List IndexNo) → AllZip (MatchesArm (over tables a) q r) arms is → AllZip (MatchesArm (over tables b) q r) arms (map f is)
  zip-there [] [] h = tt
  zip-there [] (i ∷ is) h = h
  zip-there (x ∷ arms) [] h = h
  zip-there (x ∷ arms) (i ∷ is) h = (arm-there x i h.0, zip-there arms is h.1)

  -- an element's index is one of the table
  abbrev IsOnElement : Element → Type 0
  IsOnElement (by_index i) = IsIndexOn (over tables a) q r i
  IsOnElement (by_clause n) = Unit {0}

  clauses-on : (cs : List Numbered) → AllByRecursion IsOnElement (map (λ (k : Numbered). by_clause k.number) cs)
  clauses-on [] = tt
  clauses-on (k ∷ cs) = (tt, clauses-on cs)

  indexes-on : (is : List IndexNo) (cs : List Numbered) → ((i : IndexNo) → is-listed i is ≡ true → IsIndexOn (over tables a) q r i) → AllByRecursion IsOnElement (map by_index is ++ map (λ (k : Numbered). by_clause k.number) cs)
  indexes-on [] cs h = clauses-on cs
  indexes-on (i ∷ is) cs h =
      (h i (ap (λ (x : Bool). x || is-listed i is) (eq-eqb i.0 i.0 refl)), indexes-on is cs (λ j g. h j (or_right (nat_eq i.0 j.0) (is-listed j is) g)))

  module _ (p : Set) where
    element-there : (x : Element) → IsOnElement x → IsElement (over tables a) q r p x → IsElement (over tables b) q r p (element_moved f x)
    element-there (by_index i) on h = (
      usable-same tables a b i (f i) (m.same r i lt on) q.classes r h.0,
      ap (λ (cs : List Numbered). nat_lt 0 (length cs)) (conditions-same tables a b i (f i) (m.same r i lt on) q.classes r p) ∙ h.1,
    )
    element-there (by_clause n) on h = or-there (condition_at q n) h

    element-back : (x : Element) → IsOnElement x → IsElement (over tables b) q r p (element_moved f x) → IsElement (over tables a) q r p x
    element-back (by_index i) on h = (
      usable-back tables a b i (f i) (m.same r i lt on) q.classes r h.0,
      sym (ap (λ (cs : List Numbered). nat_lt 0 (length cs)) (conditions-same tables a b i (f i) (m.same r i lt on) q.classes r p)) ∙ h.1,
    )
    element-back (by_clause n) on h = or-back (condition_at q n) h

    picked-there : (xs ys : List Element) → AllByRecursion IsOnElement xs → ArePicked (IsElement (over tables a) q r p) xs ys → ArePicked (IsElement (over tables b) q r p) (map (element_moved f) xs) (map (element_moved f) ys)
    picked-there _ _ on none_left = none_left
    picked-there _ _ on (picked x xs ys is rest) = picked (element_moved f x) (map (element_moved f) xs) (map (element_moved f) ys) (element-there x on.0 is) (picked-there xs ys on.1 rest)
    picked-there _ _ on (passed x xs ys is rest) = passed (element_moved f x) (map (element_moved f) xs) (map (element_moved f) ys) (λ h. is (element-back x on.0 h)) (picked-there xs ys on.1 rest)

    candidates-there : candidates (over tables b) q r p ≡ map (element_moved f) (candidates (over tables a) q r p)
    candidates-there =
        ap (λ (is : List IndexNo). map by_index is ++ map (λ (k : Numbered). by_clause k.number) (local q.classes r p)) (m.listed r lt)
        ∙ all-moved f (indexes_of (over tables a) (table_of_relation q r)) (local q.classes r p)

    candidates-on : AllByRecursion IsOnElement (candidates (over tables a) q r p)
    candidates-on = indexes-on (indexes_of (over tables a) (table_of_relation q r)) (local q.classes r p) (λ i h. (listed-on (over tables a) q r i).0 h)

    element-of-there : (t : BitTree) → element_of (over tables b) q r p (tree_moved f t) ≡ option_map (element_moved f) (element_of (over tables a) q r p t)
    element-of-there (leaf i) = refl
    element-of-there (all_hold bs) = refl
    element-of-there (some_arm n is) = refl

    elements-of-there : (bs : BitTrees) → elements_of (over tables b) q r p (trees_moved f bs) ≡ map (option_map (element_moved f)) (elements_of (over tables a) q r p bs)
    elements-of-there no_trees = refl
    elements-of-there (tree_and t bs) = ap₂ (λ (x : Option Element) (xs : List (Option Element)). x ∷ xs) (element-of-there t) (elements-of-there bs)

    has-there : (t : BitTree) → HasArms (over tables a) q r p t → HasArms (over tables b) q r p (tree_moved f t)
    has-there (leaf i) h = tt
    has-there (all_hold bs) h = h
    has-there (some_arm n is) h = zip-there (arms_of (condition_at q n)) is h

    have-there : (bs : BitTrees) → HaveArms (over tables a) q r p bs → HaveArms (over tables b) q r p (trees_moved f bs)
    have-there no_trees h = tt
    have-there (tree_and t bs) h = (has-there t h.0, have-there bs h.1)

    over-there : (es : List Element) (t : BitTree) → IsTreeOver (over tables a) q r p es t → IsTreeOver (over tables b) q r p (map (element_moved f) es) (tree_moved f t)
    over-there es (leaf i) h = contains-mapped (element_moved f) es (by_index i) h
    over-there es (some_arm n is) h = (contains-mapped (element_moved f) es (by_clause n) h.0, zip-there (arms_of (condition_at q n)) is h.1)
    over-there es (all_hold bs) h = (
      h.0,
      elements-of-there bs ∙ ap (map (option_map (element_moved f))) h.1 ∙ some-moved f (items_where_true h.0 es) ∙ ap (map Some) (masked-moved f h.0 es),
      subst (λ (n : ℕ). 2 ≤ n) (sym (ap length (elements-of-there bs) ∙ length-moved f (elements_of (over tables a) q r p bs))) h.2,
      have-there bs h.3,
    )

    tree-there : (t : BitTree) → IsBitTree (over tables a) q r p t → IsBitTree (over tables b) q r p (tree_moved f t)
    tree-there t h = record {
      elements = map (element_moved f) h.elements;
      are = subst (λ (xs : List Element). ArePicked (IsElement (over tables b) q r p) xs (map (element_moved f) h.elements)) (sym candidates-there) (picked-there (candidates (over tables a) q r p) h.elements candidates-on h.are);
      over = subst (λ (es : List Element). IsTreeOver (over tables b) q r p es (tree_moved f t)) (sym (take-map (element_moved f) MOST_ELEMENTS h.elements)) (over-there (take MOST_ELEMENTS h.elements) t h.over);
    }

module _ (tables : List TableDef) (a b : List NamedIndex) (q : Query) (f : IndexNo → IndexNo) (m : Keeps (over tables a) (over tables b) q f) (r : ℕ) (lt : r < width q) where
  module _ (p : Set) where
    leaf-on : (es : List Element) (i : IndexNo) → ArePicked (IsElement (over tables a) q r p) (candidates (over tables a) q r p) es → In (by_index i) es → IsIndexOn (over tables a) q r i
    leaf-on es i are h = (listed-on (over tables a) q r i).0 (index-listed i (indexes_of (over tables a) (table_of_relation q r)) (local q.classes r p) (in-picked (IsElement (over tables a) q r p) (by_index i) (candidates (over tables a) q r p) es are h))

    one-on : (es : List Element) (t : BitTree) (e : Element) → ArePicked (IsElement (over tables a) q r p) (candidates (over tables a) q r p) es → In e es → element_of (over tables a) q r p t ≡ Some e → HasArms (over tables a) q r p t → IsOnTree (over tables a) q r t
    one-on es (leaf i) e are h same arms = let is : by_index i ≡ e = cc in leaf-on es i are (subst (λ (x : Element). In x es) (sym is) h)
    one-on es (all_hold bs) e are h same arms = absurd arms
    one-on es (some_arm n is) e are h same arms = arms

    all-on : (all : List Element) (es : List Element) (bs : BitTrees) → ArePicked (IsElement (over tables a) q r p) (candidates (over tables a) q r p) all → ((e : Element) → In e es → In e all) → elements_of (over tables a) q r p bs ≡ map Some es → HaveArms (over tables a) q r p bs → AreOnTrees (over tables a) q r bs
    all-on all es no_trees are within same arms = tt
    all-on all [] (tree_and t bs) are within same arms = cc
    all-on all (e ∷ es) (tree_and t bs) are within same arms =
        let head : element_of (over tables a) q r p t ≡ Some e = cc in
        let tail : elements_of (over tables a) q r p bs ≡ map Some es = cc in
        (one-on all t e are (within e (inl refl)) head arms.0, all-on all es bs are (λ x h. within x (inr h)) tail arms.1)

    pub tree-on : (t : BitTree) → IsBitTree (over tables a) q r p t → IsOnTree (over tables a) q r t
    tree-on (leaf i) h = leaf-on h.elements i h.are (in-taken MOST_ELEMENTS (by_index i) h.elements (in-contained (by_index i) (take MOST_ELEMENTS h.elements) h.over.0 h.over.1 h.over.2))
    tree-on (all_hold bs) h =
        all-on h.elements (items_where_true h.over.0 (take MOST_ELEMENTS h.elements)) bs h.are (λ e at. in-taken MOST_ELEMENTS e h.elements (in-masked e h.over.0 (take MOST_ELEMENTS h.elements) at)) h.over.1 h.over.3
    tree-on (some_arm n is) h = h.over.1

    -- the clauses that a tree uses
    mutual
      pub uses-same : (t : BitTree) → IsOnTree (over tables a) q r t → (n : ℕ) → uses (over tables b) q r p (tree_moved f t) n ≡ uses (over tables a) q r p t n
      uses-same (leaf i) h n = ap (λ (cs : List Numbered). has_number cs n) (conditions-same tables a b i (f i) (m.same r i lt h) q.classes r p)
      uses-same (all_hold bs) h n = some-uses-same bs h n
      uses-same (some_arm k is) h n = refl

      some-uses-same : (bs : BitTrees) → AreOnTrees (over tables a) q r bs → (n : ℕ) → some_uses (over tables b) q r p (trees_moved f bs) n ≡ some_uses (over tables a) q r p bs n
      some-uses-same no_trees h n = refl
      some-uses-same (tree_and t bs) h n = ap₂ (λ (x y : Bool). x || y) (uses-same t h.0 n) (some-uses-same bs h.1 n)

-- the parts of the indexes of a tree
module _ (tables : List TableDef) (a b : List NamedIndex) (q : Query) (f : IndexNo → IndexNo) (m : Keeps (over tables a) (over tables b) q f) (r : RelNo) (lt : r.0 < width q) (p : RelSet) where
  arms-parts : (arms : List Cond) (is : List IndexNo) → AllZip (MatchesArm (over tables a) q r.0) arms is → parts_of_arms (over tables b) q r p arms (map f is) ≡ parts_of_arms (over tables a) q r p arms is
  arms-parts [] [] h = refl
  arms-parts [] (i ∷ is) h = absurd h
  arms-parts (x ∷ arms) [] h = absurd h
  arms-parts (x ∷ arms) (i ∷ is) h = ap₂ (λ (n : ℕ) (ns : List ℕ). n ∷ ns) (arm-same tables a b i (f i) (m.same r.0 i lt h.0.index) q r.0 (has p.0) x) (arms-parts arms is h.1)

  mutual
    pub part-there : (t : BitTree) → IsOnTree (over tables a) q r.0 t → part_of (over tables b) q r p (tree_moved f t) ≡ part_of (over tables a) q r p t
    part-there (leaf i) h = leaf-same tables a b i (f i) (m.same r.0 i lt h) q r.0 (has p.0)
    part-there (all_hold bs) h = ap together (parts-there bs h)
    part-there (some_arm n is) h = ap together (arms-parts (arms_of (condition_at q n)) is h)

    parts-there : (bs : BitTrees) → AreOnTrees (over tables a) q r.0 bs → parts_of_all (over tables b) q r p (trees_moved f bs) ≡ parts_of_all (over tables a) q r p bs
    parts-there no_trees h = refl
    parts-there (tree_and t bs) h = ap₂ (λ (n : ℕ) (ns : List ℕ). n ∷ ns) (part-there t h.0) (parts-there bs h.1)

-- what moves is kept
pub keeps : (tables : List TableDef) (a b : List NamedIndex) (q : Query) (f : IndexNo → IndexNo) → Moves (over tables a) (over tables b) q f → Keeps (over tables a) (over tables b) q f
keeps tables a b q f m = record { there = m.there; same = m.same; trees = λ r p t lt h. tree-there tables a b q f m r lt p t h }
