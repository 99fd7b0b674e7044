-- A plan of the space has a cost: its indexes are of the catalogue, and each arm has an index that matches it.
use Prim.Native.Nat.{suc, zero}
use Rattle.std.proofs.Common.{◌≡◌, ◌<◌, ℕ, Bool, true, false, ◌||◌, nat_eq, List, [], ◌∷◌, ◌++◌, length, map, take, refl, sym, ap, subst, arith, ◌⊎◌, inl, inr, slice_index_or}
use Rattle.std.specs.Prelude.{Some}
use Rattle.std.specs.List.{AllZip, items_where_true}
use Rattle.std.proofs.lemmas.Grind.{common_steps}
use Rattle.pg_base.specs.Sets.{has}
use Rattle.pg_base.specs.declared.numbers.IndexNo.{IndexNo}
use Rattle.pg_expr.specs.Cond.{Cond}
use Rattle.sql_query.specs.catalog_Contents.{Contents, IsIndex, indexes_of}
use Rattle.eq_classes.specs.Clauses.{Set}
use Rattle.index_match.specs.Arms.{arms_of}
use Rattle.index_match.specs.Numbered.{Numbered, local}
use Rattle.sql_query.specs.Queries.{Query}
use Rattle.plan_tree.specs.Plans.{Plan, seq, index, index_only, bitmap, sort, nest, merge, BitTree, leaf, all_hold, some_arm, BitTrees, no_trees, tree_and}
use Rattle.plan_tree.specs.Bitmaps.{Element, by_index, by_clause, ArePicked, none_left, picked, passed, MOST_ELEMENTS, MatchesArm, IsBitTree, IsElement, HasArms, HaveArms, element_of, elements_of, condition_at, candidates, table_of_relation}
use Rattle.plan_tree.specs.work.Costable.{IsCostable, IsCostableTree, AreCostableTrees, IsMatchedBy}
use Rattle.plan_tree.specs.Space.{IsBuilt}
use Rattle.plan_tree.proofs.ElementLemmas.{is-listed, listed-on}

-- an element stands in a list
abbrev pub In : Element → List Element → Type 0
In e [] = ⊥
In e (x ∷ xs) = (x ≡ e) ⊎ In e xs

pub in-taken : (n : ℕ) (e : Element) (xs : List Element) → In e (take n xs) → In e xs
in-taken zero e [] h = h
in-taken zero e (x ∷ xs) h = absurd h
in-taken (suc n) e [] h = h
in-taken (suc n) e (x ∷ xs) (inl same) = inl same
in-taken (suc n) e (x ∷ xs) (inr h) = inr (in-taken n e xs h)

pub in-contained : (e : Element) (xs : List Element) (k : ℕ) → k < length xs → slice_index_or xs k e ≡ e → In e xs
in-contained e [] k lt at = elim lt [ ]
in-contained e (x ∷ xs) zero lt at = inl at
in-contained e (x ∷ xs) (suc k) lt at = inr (in-contained e xs k (omega (arith, lt)) at)

pub in-masked : (e : Element) (mask : List Bool) (xs : List Element) → In e (items_where_true mask xs) → In e xs
in-masked e [] xs h = absurd h
in-masked e (b ∷ bs) [] h = absurd h
in-masked e (true ∷ bs) (x ∷ xs) (inl same) = inl same
in-masked e (true ∷ bs) (x ∷ xs) (inr h) = inr (in-masked e bs xs h)
in-masked e (false ∷ bs) (x ∷ xs) h = inr (in-masked e bs xs h)

pub in-picked : (P : Element → Type 0) (e : Element) (xs ys : List Element) → ArePicked P xs ys → In e ys → In e xs
in-picked P e _ _ none_left h = h
in-picked P e _ _ (picked x xs ys is p) (inl same) = inl same
in-picked P e _ _ (picked x xs ys is p) (inr h) = inr (in-picked P e xs ys p h)
in-picked P e _ _ (passed x xs ys is p) h = inr (in-picked P e xs ys p h)

clause-no-index : (i : IndexNo) (cs : List Numbered) → ¬ In (by_index i) (map (λ (k : Numbered). by_clause k.number) cs)
clause-no-index i [] h = h
clause-no-index i (k ∷ cs) (inl same) = cc
clause-no-index i (k ∷ cs) (inr h) = clause-no-index i cs h

pub index-listed : (i : IndexNo) (is : List IndexNo) (cs : List Numbered) → In (by_index i) (map by_index is ++ map (λ (k : Numbered). by_clause k.number) cs) → is-listed i is ≡ true
index-listed i [] cs h = absurd (clause-no-index i cs h)
index-listed i (y ∷ is) cs (inl same) = let same-index : y ≡ i = cc in here y i (is-listed i is) (ap (λ (x : IndexNo). x.0) same-index)
  where
    here : (a b : IndexNo) (rest : Bool) → a.0 ≡ b.0 → nat_eq a.0 b.0 || rest ≡ true
    here a b rest e = grind (arith, common_steps)
index-listed i (y ∷ is) cs (inr h) = or-later (nat_eq y.0 i.0) (index-listed i is cs h)
  where
    or-later : {b : Bool} (a : Bool) → b ≡ true → a || b ≡ true
    or-later true e = refl
    or-later false e = e

matched-zip : (c : Contents) (q : Query) (r : ℕ) (arms : List Cond) (is : List IndexNo) → AllZip (MatchesArm c q r) arms is → AllZip (IsMatchedBy c r) arms is
matched-zip c q r [] [] h = tt
matched-zip c q r [] (i ∷ is) h = h
matched-zip c q r (a ∷ arms) [] h = h
matched-zip c q r (a ∷ arms) (i ∷ is) h = (record { made = h.0.index.made; matched = h.0.matched }, matched-zip c q r arms is h.1)

module _ (c : Contents) (q : Query) (r : ℕ) (p : Set) where
  leaf-made : (es : List Element) (i : IndexNo) → ArePicked (IsElement c q r p) (candidates c q r p) es → In (by_index i) es → IsIndex c i
  leaf-made es i are h = ((listed-on c q r i).0 (index-listed i (indexes_of c (table_of_relation q r)) (local q.classes r p) (in-picked (IsElement c q r p) (by_index i) (candidates c q r p) es are h))).made

  one-made : (es : List Element) (b : BitTree) (e : Element) → ArePicked (IsElement c q r p) (candidates c q r p) es → In e es → element_of c q r p b ≡ Some e → HasArms c q r p b → IsCostableTree c q r b
  one-made es (leaf i) e are h same arms = let is : by_index i ≡ e = cc in leaf-made es i are (subst (λ x. In x es) (sym is) h)
  one-made es (all_hold bs) e are h same arms = absurd arms
  one-made es (some_arm n is) e are h same arms = matched-zip c q r (arms_of (condition_at q n)) is arms

  all-made : (all : List Element) (es : List Element) (bs : BitTrees) → ArePicked (IsElement c q r p) (candidates c q r p) all → ((e : Element) → In e es → In e all) → elements_of c q r p bs ≡ map Some es → HaveArms c q r p bs → AreCostableTrees c q r bs
  all-made all es no_trees are within same arms = tt
  all-made all [] (tree_and b bs) are within same arms = cc
  all-made all (e ∷ es) (tree_and b bs) are within same arms =
      let head : element_of c q r p b ≡ Some e = cc in
      let tail : elements_of c q r p bs ≡ map Some es = cc in
      (one-made all b e are (within e (inl refl)) head arms.0, all-made all es bs are (λ x h. within x (inr h)) tail arms.1)

  pub tree-made : (b : BitTree) → IsBitTree c q r p b → IsCostableTree c q r b
  tree-made (leaf i) h = leaf-made h.elements i h.are (in-taken MOST_ELEMENTS (by_index i) h.elements (in-contained (by_index i) (take MOST_ELEMENTS h.elements) h.over.0 h.over.1 h.over.2))
  tree-made (all_hold bs) h =
      all-made h.elements (items_where_true h.over.0 (take MOST_ELEMENTS h.elements)) bs h.are (λ e at. in-taken MOST_ELEMENTS e h.elements (in-masked e h.over.0 (take MOST_ELEMENTS h.elements) at)) h.over.1 h.over.3
  tree-made (some_arm n is) h = matched-zip c q r (arms_of (condition_at q n)) is h.over.1

pub built-costable : (c : Contents) (q : Query) (p : Plan) → IsBuilt c q p → IsCostable c q p
built-costable c q (seq r) h = h
built-costable c q (index r i backward p) h = (h.relation, h.index.made)
built-costable c q (index_only r i backward p) h = (h.scan.relation, h.scan.index.made)
built-costable c q (bitmap r p bits) h = (h.relation, tree-made c q r.0 (has p.0) bits h.tree)
built-costable c q (sort keys input) h = built-costable c q input h.0
built-costable c q (nest outer inner) h = (built-costable c q outer h.0, built-costable c q inner h.1)
built-costable c q (merge keys outer inner) h = (h.2.list.some, h.2.list.few, built-costable c q outer h.0, built-costable c q inner h.1)
