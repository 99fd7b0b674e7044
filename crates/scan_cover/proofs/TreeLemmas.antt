-- Elements in their trees of least part: what they use, their parts, and their arms.
use Rattle.std.proofs.Common.{◌≡◌, ◌<◌, ◌≤◌, ◌+◌, ℕ, suc, Bool, true, false, ◌&&◌, ◌||◌, nat_eq, nat_lt, List, [], ◌∷◌, ◌++◌, length, map, sum, refl, sym, ap, ap₂, subst, ◌∙◌, arith, le_refl, true≢false}
use Rattle.std.specs.Prelude.{Option, Some}
use Rattle.std.specs.List.{AllZip, list_any}
use Rattle.std.proofs.lemmas.Grind.{common_steps}
use Rattle.std.proofs.lemmas.List.{append-nil}
use Rattle.pg_base.specs.Sets.{has}
use Rattle.pg_base.specs.declared.numbers.IndexNo.{IndexNo}
use Rattle.pg_base.specs.declared.numbers.RelNo.{RelNo}
use Rattle.pg_base.specs.declared.rel_set.RelSet.{RelSet}
use Rattle.pg_expr.specs.work.AtomSets.{contains}
use Rattle.pg_expr.specs.Cond.{Cond}
use Rattle.catalog.specs.Contents.{Contents}
use Rattle.sql_query.specs.Queries.{Query}
use Rattle.cost_rules.specs.work.Costs.{capped}
use Rattle.index_match.specs.Arms.{arms_of}
use Rattle.index_match.specs.Conditions.{index_conditions}
use Rattle.index_match.specs.Numbered.{has_number}
use Rattle.plan_tree.specs.Bitmaps.{Element, HasArms, MatchesArm, by_clause, by_index, condition_at, element_of, elements_of, some_uses, uses}
use Rattle.plan_tree.specs.Costs.{part_of, parts_of_all, together}
use Rattle.plan_tree.specs.Plans.{BitTree, leaf, all_hold, some_arm}
use Rattle.plan_tree.specs.work.Views.{trees_of}
use Rattle.bitmap_scan.specs.work.Arms.{AreServed}
use Rattle.bitmap_scan.specs.work.Chosen.{IsLeastTree, combined}
use Rattle.bitmap_scan.proofs.ArmLemmas.{clause-least, clause-part}
use Rattle.pg_base.proofs.ListLemmas.{sum-cons}
use Rattle.plan_check.specs.Plains.{arms_in, arms_in_all, elements_in}
use Rattle.scan_cover.specs.work.Trees.{IsKept, element_in}
use Rattle.scan_cover.specs.work.Limits.{arms_of_all}
use Rattle.scan_cover.specs.declared.kept.Kept.{Kept}
use Rattle.pg_base.proofs.NumberLemmas.{test-below as inside}
use Rattle.bitmap_scan.proofs.KeptLemmas.{capped-both}
use Rattle.bitmap_scan.proofs.KeptLemmas.{capped-child}

or-false : (b : Bool) → b || false ≡ b
or-false true = refl
or-false false = refl

both-ways : (m n : ℕ) → m ≤ n → n ≤ m → m ≡ n
both-ways m n h k = omega (arith, h, k)

one-part : (n : ℕ) → capped (together (n ∷ [])) ≡ capped n
one-part n = let e = sum-cons n [] in omega (arith, e)

module _ (c : Contents) (q : Query) (r : RelNo) (p : RelSet) where
  -- what a tree that is an element uses depends on the element alone
  uses-element : (a b : BitTree) (e : Element) → element_of c q r.0 (has p.0) a ≡ Some e → element_of c q r.0 (has p.0) b ≡ Some e → (n : ℕ) → uses c q r.0 (has p.0) a n ≡ uses c q r.0 (has p.0) b n
  uses-element (leaf i) (leaf j) e h k n = let same : i ≡ j = cc in ap (λ x. has_number (index_conditions c q.classes x r.0 (has p.0)) n) same
  uses-element (leaf i) (all_hold bs) e h k n = cc
  uses-element (leaf i) (some_arm m is) e h k n = cc
  uses-element (all_hold bs) b e h k n = cc
  uses-element (some_arm m is) (leaf j) e h k n = cc
  uses-element (some_arm m is) (all_hold bs) e h k n = cc
  uses-element (some_arm m is) (some_arm l js) e h k n = let same : m ≡ l = cc in ap (nat_eq n) same

  -- what is kept is so for each tree of least part
  pub kept-other : (k : Kept) (a b : BitTree) → IsKept c q r p k a → IsLeastTree c q r p (element_in k) b → IsKept c q r p k b
  kept-other k a b h least =
      let same = both-ways (capped (part_of c q r p a)) (capped (part_of c q r p b)) (h.least.least b least.element least.arms) (least.least a h.least.element h.least.arms) in
      record {
        least = least;
        part = h.part ∙ same;
        used = λ n. h.used n ∙ uses-element a b (element_in k) h.least.element least.element n;
        within = h.within;
      }

  pub leaf-least : (i : IndexNo) → IsLeastTree c q r p (by_index i) (leaf i)
  leaf-least i = record { element = refl; arms = tt; least = by }
    where
      by : (other : BitTree) → element_of c q r.0 (has p.0) other ≡ Some (by_index i) → HasArms c q r.0 (has p.0) other → capped (part_of c q r p (leaf i)) ≤ capped (part_of c q r p other)
      by (leaf j) e h = let same : i ≡ j = cc in subst (λ (x : IndexNo). capped (part_of c q r p (leaf i)) ≤ capped (part_of c q r p (leaf x))) same (le_refl (capped (part_of c q r p (leaf i))))
      by (all_hold bs) e h = absurd h
      by (some_arm m is) e h = absurd (cc)

  -- an index
  pub kept-leaf : (k : Kept) (i : IndexNo) → element_in k ≡ by_index i → k.part ≡ capped (part_of c q r p (leaf i)) → ((n : ℕ) → contains k.used n ≡ uses c q r.0 (has p.0) (leaf i) n) → ((n : ℕ) → contains k.used n ≡ true → n < length q.classes.clauses) → IsKept c q r p k (leaf i)
  kept-leaf k i is part used within = record { least = subst (λ (e : Element). IsLeastTree c q r p e (leaf i)) (sym is) (leaf-least i); part = part; used = used; within = within }

  -- an OR clause
  pub kept-clause : (k : Kept) (n : ℕ) (xs : List Cond) (is : List IndexNo) → element_in k ≡ by_clause n → arms_of (condition_at q n) ≡ xs → AreServed c q r p xs is k.part → ((m : ℕ) → contains k.used m ≡ nat_eq m n) → n < length q.classes.clauses → IsKept c q r p k (some_arm n is)
  kept-clause k n xs is element arms served used lt = record {
    least = subst (λ (e : Element). IsLeastTree c q r p e (some_arm n is)) (sym element) (clause-least c q r p n xs is k.part arms served);
    part = clause-part c q r p n xs is k.part arms served;
    used = used;
    within = λ m e. subst (λ (j : ℕ). j < length q.classes.clauses) (sym (only m n (sym (used m) ∙ e))) lt;
  }
    where
      only : (m n : ℕ) → nat_eq m n ≡ true → m ≡ n
      only m n e = grind (arith, common_steps)

  -- an index has no arms
  pub leaf-arms : (b : BitTree) (i : IndexNo) → element_of c q r.0 (has p.0) b ≡ Some (by_index i) → arms_in b ≡ []
  leaf-arms (leaf j) i e = refl
  leaf-arms (all_hold bs) i e = absurd (cc)
  leaf-arms (some_arm m is) i e = absurd (cc)

  -- the clause of an OR is one of the query, and each arm has an index that matches it
  pub clause-within : (k : Kept) (n : ℕ) (b : BitTree) → element_in k ≡ by_clause n → IsKept c q r p k b → n < length q.classes.clauses
  clause-within k n b is h = by b (h.least.element ∙ ap Some is) (h.within n) (h.used n)
    where
      self : (m : ℕ) → nat_eq m m ≡ true
      self m = grind (arith, common_steps)

      by : (a : BitTree) → element_of c q r.0 (has p.0) a ≡ Some (by_clause n) → (contains k.used n ≡ true → n < length q.classes.clauses) → contains k.used n ≡ uses c q r.0 (has p.0) a n → n < length q.classes.clauses
      by (leaf i) e w u = absurd (cc)
      by (all_hold bs) e w u = absurd (cc)
      by (some_arm m is) e w u = let same : n ≡ m = cc in w (u ∙ ap (nat_eq n) (sym same) ∙ self n)

  pub clause-arms : (n : ℕ) (b : BitTree) → element_of c q r.0 (has p.0) b ≡ Some (by_clause n) → HasArms c q r.0 (has p.0) b → (is : List IndexNo) × AllZip (MatchesArm c q r.0) (arms_of (condition_at q n)) is
  clause-arms n (leaf i) e h = absurd (cc)
  clause-arms n (all_hold bs) e h = absurd h
  clause-arms n (some_arm m is) e h = let same : n ≡ m = cc in (is, subst (λ (j : ℕ). AllZip (MatchesArm c q r.0) (arms_of (condition_at q j)) is) (sym same) h)

  -- some elements together: what they use
  combined-uses : (bs : List BitTree) (n : ℕ) → some_uses c q r.0 (has p.0) (trees_of bs) n ≡ uses c q r.0 (has p.0) (combined bs) n
  combined-uses [] n = refl
  combined-uses (b ∷ []) n = or-false (uses c q r.0 (has p.0) b n)
  combined-uses (b ∷ (d ∷ bs)) n = refl

  used-all : (ks : List Kept) (bs : List BitTree) (n : ℕ) → AllZip (IsKept c q r p) ks bs → list_any (λ (k : Kept). contains k.used n) ks ≡ some_uses c q r.0 (has p.0) (trees_of bs) n
  used-all [] [] n z = refl
  used-all [] (b ∷ bs) n z = absurd z
  used-all (k ∷ ks) [] n z = absurd z
  used-all (k ∷ ks) (b ∷ bs) n z = ap₂ (λ (x y : Bool). x || y) (z.0.used n) (used-all ks bs n z.1)

  within-one : (k : Kept) (n : ℕ) (rest b : Bool) → ((m : ℕ) → contains k.used m ≡ true → m < length q.classes.clauses) → contains k.used n ≡ b → (rest ≡ true → n < length q.classes.clauses) → b || rest ≡ true → n < length q.classes.clauses
  within-one k n rest true h g later e = h n g
  within-one k n rest false h g later e = later e

  within-all : (ks : List Kept) (bs : List BitTree) (n : ℕ) → AllZip (IsKept c q r p) ks bs → list_any (λ (k : Kept). contains k.used n) ks ≡ true → n < length q.classes.clauses
  within-all [] bs n z e = absurd (true≢false (sym e))
  within-all (k ∷ ks) [] n z e = absurd z
  within-all (k ∷ ks) (b ∷ bs) n z e = within-one k n (list_any (λ (x : Kept). contains x.used n) ks) (contains k.used n) z.0.within refl (within-all ks bs n z.1) e

  pub used-together : (ks : List Kept) (bs : List BitTree) (used : ℕ → Bool) → AllZip (IsKept c q r p) ks bs → ((n : ℕ) → used n ≡ nat_lt n (length q.classes.clauses) && list_any (λ (k : Kept). contains k.used n) ks) → (n : ℕ) → used n ≡ uses c q r.0 (has p.0) (combined bs) n
  used-together ks bs used z e n =
      e n ∙ inside n (length q.classes.clauses) (list_any (λ (k : Kept). contains k.used n) ks) (within-all ks bs n z) ∙ used-all ks bs n z ∙ combined-uses bs n

  -- some elements together: their parts
  combined-part : (bs : List BitTree) → capped (together (parts_of_all c q r p (trees_of bs))) ≡ capped (part_of c q r p (combined bs))
  combined-part [] = refl
  combined-part (b ∷ []) = one-part (part_of c q r p b)
  combined-part (b ∷ (d ∷ bs)) = refl

  parts-all : (ks : List Kept) (bs : List BitTree) → AllZip (IsKept c q r p) ks bs → capped (sum (map (λ (k : Kept). k.part) ks)) ≡ capped (sum (parts_of_all c q r p (trees_of bs)))
  parts-all [] [] z = refl
  parts-all [] (b ∷ bs) z = absurd z
  parts-all (k ∷ ks) [] z = absurd z
  parts-all (k ∷ ks) (b ∷ bs) z =
      let us = map (λ (x : Kept). x.part) ks in
      let vs = parts_of_all c q r p (trees_of bs) in
      let e = sum-cons k.part us in
      let g = sum-cons (part_of c q r p b) vs in
      ap capped e ∙ capped-both k.part (part_of c q r p b) (sum us) (sum vs) z.0.part (parts-all ks bs z.1) ∙ sym (ap capped g)

  parts-many : (ks : List Kept) (bs : List BitTree) → AllZip (IsKept c q r p) ks bs → length (map (λ (k : Kept). k.part) ks) ≡ length (parts_of_all c q r p (trees_of bs))
  parts-many [] [] z = refl
  parts-many [] (b ∷ bs) z = absurd z
  parts-many (k ∷ ks) [] z = absurd z
  parts-many (k ∷ ks) (b ∷ bs) z = ap suc (parts-many ks bs z.1)

  pub parts-together : (ks : List Kept) (bs : List BitTree) (n : ℕ) → AllZip (IsKept c q r p) ks bs → n ≡ capped (together (map (λ (k : Kept). k.part) ks)) → n ≡ capped (part_of c q r p (combined bs))
  parts-together ks bs n z e =
      e ∙ capped-child (map (λ (k : Kept). k.part) ks) (parts_of_all c q r p (trees_of bs)) (parts-many ks bs z) (parts-all ks bs z) ∙ combined-part bs

  -- the trees are of least part of the elements
  pub zip-least : (ks : List Kept) (bs : List BitTree) → AllZip (IsKept c q r p) ks bs → AllZip (IsLeastTree c q r p) (map element_in ks) bs
  zip-least [] [] z = tt
  zip-least [] (b ∷ bs) z = absurd z
  zip-least (k ∷ ks) [] z = absurd z
  zip-least (k ∷ ks) (b ∷ bs) z = (z.0.least, zip-least ks bs z.1)

  -- the elements of their AND
  trees-elements : (es : List Element) (bs : List BitTree) → AllZip (IsLeastTree c q r p) es bs → elements_of c q r.0 (has p.0) (trees_of bs) ≡ map Some es
  trees-elements [] [] z = refl
  trees-elements [] (b ∷ bs) z = absurd z
  trees-elements (x ∷ es) [] z = absurd z
  trees-elements (x ∷ es) (b ∷ bs) z = ap₂ (λ (y : Option Element) (ys : List (Option Element)). y ∷ ys) z.0.element (trees-elements es bs z.1)

  one-element : (e : Element) (b : BitTree) → IsLeastTree c q r p e b → elements_in c q r.0 (has p.0) b ≡ Some e ∷ []
  one-element e (leaf i) h = ap (λ (y : Option Element). y ∷ []) h.element
  one-element e (all_hold bs) h = absurd h.arms
  one-element e (some_arm m is) h = ap (λ (y : Option Element). y ∷ []) h.element

  pub combined-elements : (es : List Element) (bs : List BitTree) → AllZip (IsLeastTree c q r p) es bs → elements_in c q r.0 (has p.0) (combined bs) ≡ map Some es
  combined-elements [] [] z = refl
  combined-elements [] (b ∷ bs) z = absurd z
  combined-elements (x ∷ es) [] z = absurd z
  combined-elements (x ∷ []) (b ∷ []) z = one-element x b z.0
  combined-elements (x ∷ (y ∷ es)) (b ∷ []) z = absurd z.1
  combined-elements (x ∷ es) (b ∷ (d ∷ bs)) z = trees-elements (x ∷ es) (b ∷ (d ∷ bs)) z

-- the arms of an AND
all-arms : (bs : List BitTree) → arms_in_all (trees_of bs) ≡ arms_of_all bs
all-arms [] = refl
all-arms (b ∷ bs) = ap (λ (is : List IndexNo). arms_in b ++ is) (all-arms bs)

pub combined-arms : (bs : List BitTree) → arms_in (combined bs) ≡ arms_of_all bs
combined-arms [] = refl
combined-arms (b ∷ []) = sym (append-nil (arms_in b))
combined-arms (b ∷ (d ∷ bs)) = all-arms (b ∷ (d ∷ bs))
