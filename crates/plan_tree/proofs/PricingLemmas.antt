-- The parts of bitmap trees and the clauses that they use, summed and gathered one by one.
use Prim.Native.Nat.{suc, zero}
use Rattle.std.proofs.Common.{rules, ◌≡◌, ◌<◌, ◌≤◌, ◌+◌, ◌-◌, ◌*◌, ℕ, Bool, true, false, cond, ◌||◌, ◌&&◌, nat_lt, List, [], ◌∷◌, length, map, drop, sum, refl, sym, ap, ap₂, ◌∙◌, subst₂, arith, get_or, Vec, Global}
use Rattle.std.specs.Prelude.{fold}
use Rattle.std.specs.List.{AllZip}
use Rattle.std.proofs.Math.ListN.{drop_of_length-le}
use Rattle.std.proofs.lemmas.Grind.{common_steps}
use Rattle.std.proofs.lemmas.List.{drop_more}
use Rattle.pg_base.specs.declared.numbers.IndexNo.{IndexNo}
use Rattle.pg_base.specs.declared.numbers.RelNo.{RelNo}
use Rattle.pg_base.specs.declared.rel_set.RelSet.{RelSet}
use Rattle.pg_base.specs.Sets.{has}
use Rattle.pg_expr.specs.Cond.{Cond, any_of}
use Rattle.pg_expr.specs.work.View as view
use Rattle.pg_expr.specs.declared.expr.Expr.{Expr}
use Rattle.sql_query.specs.catalog_Contents.{Contents, index_at}
use Rattle.cost_rules.specs.declared.parameters.TheConstants.{MOST_COST}
use Rattle.cost_rules.specs.Costs.{pair}
use Rattle.cost_rules.specs.work.Costs.{capped, capped_pair}
use Rattle.sql_query.specs.catalog_Range.{Range}
use Rattle.cost_rules.specs.Scans.{bitmap_scan_cost}
use Rattle.eq_classes.specs.Clauses.{Set, ClassTable}
use Rattle.index_match.specs.Arms.{arms_of, arm_parts, arm_bounds}
use Rattle.eq_classes.proofs.ConditionLemmas.{listed_conds}
use Rattle.index_match.specs.Numbered.{has_number}
use Rattle.path_cost.specs.Costs.{arm_part, bitmap_cost, local_operators}
use Rattle.path_cost.specs.Estimates.{kept, set_numbers_from, picked_from, table_pages, table_rows}
use Rattle.path_cost.specs.Ranges.{conditions}
use Rattle.path_cost.specs.Selectivity.{weights}
use Rattle.path_cost.proofs.NumberLemmas.{numbers-same}
use Rattle.path_cost.specs.Runs.{runs}
use Rattle.sql_query.specs.Queries.{Query, width}
use Rattle.plan_tree.specs.Plans.{Plan, seq, index, index_only, bitmap, sort, nest, merge, BitTree, all_hold, some_arm}
use Rattle.plan_tree.specs.Bitmaps.{some_uses, uses}
use Rattle.plan_tree.specs.work.Costable.{IsCostable, IsCostableTree, AreCostableTrees, IsMatchedBy}
use Rattle.plan_tree.specs.Costs.{together, part_of, parts_of_all, parts_of_arms}
use Rattle.plan_tree.specs.work.Reads.{ReadsBelow}
use Rattle.plan_tree.specs.work.Views.{bits, bits_all, trees_of}
use Rattle.plan_tree.specs.declared.bits.BitTrees.{BitTrees as Many}
use Rattle.plan_tree.specs.declared.bits.BitTree.{Or}
use Rattle.plan_tree.specs.declared.bits.BitTree.TheViews.{And, the_lemmas}
use Rattle.plan_tree.specs.declared.bits.BitTree.TheVariants.{rolls-And, rolls-Or}
use Rattle.plan_tree.specs.declared.bits.BitTree.TheFolds.{fold-roll-BitTree, fold_out-BitTree, fold-roll-BitTrees, fold_out-BitTrees}
use Rattle.pg_base.proofs.ListLemmas.{sum-cons}

-- a sum that is cut as it grows
pub cut-more : (done part exact rest total : ℕ) → part ≡ capped exact → capped (done + (exact + rest)) ≡ total → capped (capped (done + part) + rest) ≡ total
cut-more done part exact rest total e h = omega (arith, e, h)

pub cut-done : (done : ℕ) (total : ℕ) → done ≤ MOST_COST → capped (done + 0) ≡ total → done ≡ total
cut-done done total le h = omega (arith, le, h)

pub together-of : (all count : ℕ) (parts : List ℕ) → all ≡ capped (sum parts) → count ≡ length parts → capped (all + (count - 1) * 100) ≡ capped (together parts)
together-of all count parts e f = go (sum parts) (length parts) e f
  where
    go : (s n : ℕ) → all ≡ capped s → count ≡ n → capped (all + (count - 1) * 100) ≡ capped (s + 100 * (n - 1))
    go s n e f = omega (arith, e, f)

sum-from : (a b : ℕ) (xs : List ℕ) → fold (λ m n. m + n) (a + b) xs ≡ a + fold (λ m n. m + n) b xs
sum-from a b [] = refl
sum-from a b (x ∷ xs) = ap (λ n. fold (λ m k. m + k) n xs) (let same : a + b + x ≡ a + (b + x) = omega arith in same) ∙ sum-from a (b + x) xs

-- one more part of a sum
pub cut-part : (done part exact : ℕ) (rest : List ℕ) (total : ℕ) → part ≡ capped exact → capped (done + sum (exact ∷ rest)) ≡ total → capped (capped (done + part) + sum rest) ≡ total
cut-part done part exact rest total e h = cut-more done part exact (sum rest) total e (ap (λ n. capped (done + n)) (sym (sum-cons exact rest)) ∙ h)

module _ {A B C : Type 0} (R : B → C → Type 0) (f : A → B) where
  pub zip-at : (xs : List A) (ys : List C) (n : ℕ) (d : A) (e : C) → AllZip R (map f xs) ys → n < length xs → R (f (get_or xs n d)) (get_or ys n e)
  zip-at [] ys n d e h lt = elim lt [ ]
  zip-at (x ∷ xs) [] n d e h lt = absurd h
  zip-at (x ∷ xs) (y ∷ ys) zero d e h lt = h.0
  zip-at (x ∷ xs) (y ∷ ys) (suc n) d e h lt = zip-at xs ys n d e h.1 (omega (arith, lt))

  pub zip-within : (xs : List A) (ys : List C) (n : ℕ) → AllZip R (map f xs) ys → n < length xs → n < length ys
  zip-within [] ys n h lt = elim lt [ ]
  zip-within (x ∷ xs) [] n h lt = absurd h
  zip-within (x ∷ xs) (y ∷ ys) zero h lt = omega arith
  zip-within (x ∷ xs) (y ∷ ys) (suc n) h lt = let rest : n < length ys = zip-within xs ys n h.1 (omega (arith, lt)) in omega (arith, rest)

module _ (c : Contents) (q : Query) (r : RelNo) (p : RelSet) where
  pub arms-long : {A : Type 0} (f : A → Cond) (xs : List A) (is : List IndexNo) → AllZip (IsMatchedBy c r.0) (map f xs) is → length (parts_of_arms c q r p (map f xs) is) ≡ length xs
  arms-long f [] [] h = refl
  arms-long f [] (i ∷ is) h = absurd h
  arms-long f (x ∷ xs) [] h = absurd h
  arms-long f (x ∷ xs) (i ∷ is) h = ap suc (arms-long f xs is h.1)

  abbrev pub part-of-arm : Cond → IndexNo → ℕ
  part-of-arm arm i = arm_part c q.range q.classes i r.0 (has p.0) (arm_parts arm) (has_number (arm_bounds (index_at c i) r.0 arm))

  -- the parts of the arms that are left, one more done
  pub arm-done : {A : Type 0} (f : A → Cond) (xs : List A) (is : List IndexNo) (n : ℕ) (d : A) (i : IndexNo) (done part total : ℕ) → n < length xs → n < length is → part ≡ capped (part-of-arm (f (get_or xs n d)) (get_or is n i)) →
      capped (done + sum (parts_of_arms c q r p (map f (drop n xs)) (drop n is))) ≡ total → capped (capped (done + part) + sum (parts_of_arms c q r p (map f (drop (n + 1) xs)) (drop (n + 1) is))) ≡ total
  arm-done f xs is n d i done part total lt li e h =
      cut-part done part (part-of-arm (f (get_or xs n d)) (get_or is n i)) (parts_of_arms c q r p (map f (drop (n + 1) xs)) (drop (n + 1) is)) total e
      (ap₂ (λ ys js. capped (done + sum (parts_of_arms c q r p (map f ys) js))) (sym (drop_more xs n d lt)) (sym (drop_more is n i li)) ∙ h)

  pub arms-done : {A : Type 0} (f : A → Cond) (xs : List A) (is : List IndexNo) (n : ℕ) (done total : ℕ) → length xs ≤ n → done ≤ MOST_COST →
      capped (done + sum (parts_of_arms c q r p (map f (drop n xs)) (drop n is))) ≡ total → done ≡ total
  arms-done f xs is n done total le most h =
      cut-done done total most (ap (λ ys. capped (done + sum (parts_of_arms c q r p (map f ys) (drop n is)))) (sym (drop_of_length-le xs le)) ∙ h)

module _ (c : Contents) (q : Query) (r : RelNo) (p : RelSet) {A : Type 0} (f : A → BitTree) where
  pub trees-long : (xs : List A) → length (parts_of_all c q r p (trees_of (map f xs))) ≡ length xs
  trees-long [] = refl
  trees-long (x ∷ xs) = ap suc (trees-long xs)

  pub tree-at : (xs : List A) (n : ℕ) (d : A) → AreCostableTrees c q r.0 (trees_of (map f xs)) → n < length xs → IsCostableTree c q r.0 (f (get_or xs n d))
  tree-at [] n d h lt = elim lt [ ]
  tree-at (x ∷ xs) zero d h lt = h.0
  tree-at (x ∷ xs) (suc n) d h lt = tree-at xs n d h.1 (omega (arith, lt))

  pub tree-done : (xs : List A) (n : ℕ) (d : A) (done part total : ℕ) → n < length xs → part ≡ capped (part_of c q r p (f (get_or xs n d))) →
      capped (done + sum (parts_of_all c q r p (trees_of (map f (drop n xs))))) ≡ total → capped (capped (done + part) + sum (parts_of_all c q r p (trees_of (map f (drop (n + 1) xs))))) ≡ total
  tree-done xs n d done part total lt e h =
      cut-part done part (part_of c q r p (f (get_or xs n d))) (parts_of_all c q r p (trees_of (map f (drop (n + 1) xs)))) total e
      (ap (λ ys. capped (done + sum (parts_of_all c q r p (trees_of (map f ys))))) (sym (drop_more xs n d lt)) ∙ h)

  pub trees-done : (xs : List A) (n : ℕ) (done total : ℕ) → length xs ≤ n → done ≤ MOST_COST → capped (done + sum (parts_of_all c q r p (trees_of (map f (drop n xs))))) ≡ total → done ≡ total
  trees-done xs n done total le most h =
      cut-done done total most (ap (λ ys. capped (done + sum (parts_of_all c q r p (trees_of (map f ys))))) (sym (drop_of_length-le xs le)) ∙ h)

  abbrev pub used-left : List A → ℕ → Bool
  used-left xs k = some_uses c q r.0 (has p.0) (trees_of (map f xs)) k

  both-used : (s t a rest : Bool) → (s || (t && a)) || (t && rest) ≡ s || (t && (a || rest))
  both-used true t a rest = refl
  both-used false true a rest = refl
  both-used false false a rest = refl

  none-used : (s t : Bool) → s || (t && false) ≡ s
  none-used true t = refl
  none-used false true = refl
  none-used false false = refl

  pub use-one : (xs : List A) (n : ℕ) (d : A) (k : ℕ) (old new within all : Bool) → n < length xs → new ≡ old || (within && uses c q r.0 (has p.0) (f (get_or xs n d)) k) →
      old || (within && used-left (drop n xs) k) ≡ all → new || (within && used-left (drop (n + 1) xs) k) ≡ all
  use-one xs n d k old new within all lt e h =
      ap (λ b. b || (within && used-left (drop (n + 1) xs) k)) e
      ∙ both-used old within (uses c q r.0 (has p.0) (f (get_or xs n d)) k) (used-left (drop (n + 1) xs) k)
      ∙ ap (λ ys. old || (within && used-left ys k)) (sym (drop_more xs n d lt))
      ∙ h

  pub use-end : (xs : List A) (n k : ℕ) (old within all : Bool) → length xs ≤ n → old || (within && used-left (drop n xs) k) ≡ all → old ≡ all
  use-end xs n k old within all le h = sym (none-used old within) ∙ ap (λ ys. old || (within && used-left ys k)) (sym (drop_of_length-le xs le)) ∙ h

-- a number below another, tested
here-below : (n end : ℕ) (b : Bool) → n < end → nat_lt n end && b ≡ b
here-below n end true lt = grind (arith, common_steps, lt)
here-below n end false lt = grind (arith, common_steps, lt)

-- the conditions of a set of numbers below the end of the clauses
pub picked-below : (chosen : ℕ → Bool) (n end : ℕ) (es : List Cond) → n + length es ≤ end → picked_from n (λ k. nat_lt k end && chosen k) es ≡ picked_from n chosen es
picked-below chosen n end [] h = refl
picked-below chosen n end (e ∷ es) h =
    ap₂ (λ b xs. cond b (e ∷ xs) xs) (here-below n end (chosen n) (few n (length es) end h)) (picked-below chosen (n + 1) end es (omega (arith, h)))
  where
    few : (a l m : ℕ) → a + suc l ≤ m → a < m
    few a l m h = omega (arith, h)

-- a bitmap scan over a part that was cut costs, cut, what it does over the part
pub part-cut : (a b part : ℕ) → capped_pair (pair (capped part) (capped part + a + b)) ≡ capped_pair (pair part (part + a + b))
part-cut a b part = ap₂ pair (once part) (sums part a b)
  where
    once : (n : ℕ) → capped (capped n) ≡ capped n
    once n = omega arith

    sums : (n x y : ℕ) → capped (capped n + x + y) ≡ capped (n + x + y)
    sums n x y = omega arith

-- a plan that has a cost reads relations of the query
pub costable-reads : (c : Contents) (q : Query) (p : Plan) → IsCostable c q p → ReadsBelow (width q) p
costable-reads c q (seq r) h = h
costable-reads c q (index r i backward p) h = h.0
costable-reads c q (index_only r i backward p) h = h.0
costable-reads c q (bitmap r p bits) h = h.0
costable-reads c q (sort keys input) h = costable-reads c q input h
costable-reads c q (nest outer inner) h = (costable-reads c q outer h.0, costable-reads c q inner h.1)
costable-reads c q (merge keys outer inner) h = (costable-reads c q outer h.2, costable-reads c q inner h.3)

pub used-below : (k n end len : ℕ) (old found is : Bool) → end ≤ n → n ≤ end → end ≡ len → found ≡ is → old || (nat_lt k n && found) ≡ old || (nat_lt k len && is)
used-below k n end len old found is le ge e f = ap₂ (λ m b. old || (nat_lt k m && b)) (let same : n ≡ len = omega (arith, le, ge, e) in same) f

-- the arms of a clause that is found to be an OR
pub arms-found : (k : Cond) (es : List Expr) → k ≡ any_of (view.conds es) → arms_of k ≡ map view.cond es
arms-found k es are = ap arms_of are ∙ listed_conds (map view.cond es)

module _ (k : Cond) (es : List Expr) (is js : List IndexNo) (are : k ≡ any_of (view.conds es)) (same : js ≡ is) where
  pub arms-zip : (R : Cond → IndexNo → Type 0) → AllZip R (arms_of k) is → AllZip R (map view.cond es) js
  arms-zip R h = subst₂ (λ xs ys. AllZip R xs ys) (arms-found k es are) (sym same) h

  pub arms-total : (c : Contents) (q : Query) (r : RelNo) (p : RelSet) → capped (together (parts_of_arms c q r p (map view.cond es) js)) ≡ capped (together (parts_of_arms c q r p (arms_of k) is))
  arms-total c q r p = ap₂ (λ xs ys. capped (together (parts_of_arms c q r p xs ys))) (sym (arms-found k es are)) same

pub no-arms : (c : Contents) (q : Query) (r : RelNo) (p : RelSet) (k : Cond) (is : List IndexNo) → arms_of k ≡ [] → 0 ≡ capped (together (parts_of_arms c q r p (arms_of k) is))
no-arms c q r p k is e = ap (λ xs. capped (together (parts_of_arms c q r p xs is))) (sym e)

-- what an OR of a bitmap tree stands for
pub or-bits : (n : ℕ) (is : Vec IndexNo Global) → bits (Or n is) ≡ some_arm n is.items
or-bits n is = search (rules, the_lemmas, rolls-Or, fold-roll-BitTree, fold_out-BitTree, fold-roll-BitTrees, fold_out-BitTrees)

-- a bitmap scan by the set of the clauses that its tree is found to use, and its part as it was cut
pub bitmap-costs : (c : Contents) (range : Range) (t : ClassTable) (r : ℕ) (p : Set) (chosen used : ℕ → Bool) (part exact : ℕ) → ((k : ℕ) → chosen k ≡ nat_lt k (length t.clauses) && used k) → part ≡ capped exact →
    capped_pair (bitmap_cost c range t r p chosen part) ≡ capped_pair (bitmap_cost c range t r p used exact)
bitmap-costs c range t r p chosen used part exact same cut =
    ap (λ n. capped_pair (bitmap_cost c range t r p chosen n)) cut
    ∙ ap (λ ns. capped_pair (bitmap_scan_cost (runs c range t p) (capped exact) (kept (table_rows c range r) (weights c range (conditions t) ns)) (table_pages c range r) (local_operators c range t r p))) numbers
    ∙ part-cut _ _ exact
  where
    numbers : set_numbers_from 0 (length t.clauses) chosen ≡ set_numbers_from 0 (length t.clauses) used
    numbers = numbers-same chosen used 0 (length t.clauses) (λ k low high. same k ∙ here-below k (length t.clauses) (used k) (omega (arith, high)))

-- what an AND of a bitmap tree stands for
pub and-bits : (parts : Many) → bits (And parts) ≡ all_hold (bits_all parts.items.items)
and-bits parts = search (rules, the_lemmas, rolls-And, fold-roll-BitTree, fold_out-BitTree, fold-roll-BitTrees, fold_out-BitTrees)
