-- What an AND of bitmap trees stands for, and that the first elements are indexes and clauses that there are.
use Rattle.std.proofs.Common.{rules, ◌≡◌, ◌<◌, ◌≤◌, ℕ, ◌+◌, Bool, true, false, cond, nat_eq, List, [], ◌∷◌, ◌++◌, length, map, filter, take, sym, subst, arith}
use Rattle.std.specs.Prelude.{All}
use Rattle.std.specs.List.{AllByRecursion, enumerate_from}
use Rattle.std.proofs.lemmas.List.Elements.{All-from_recursion, All-take}
use Rattle.pg_base.specs.Sets.{has}
use Rattle.pg_base.specs.declared.numbers.IndexNo.{IndexNo}
use Rattle.pg_base.specs.declared.numbers.TableNo.{TableNo}
use Rattle.pg_base.specs.declared.numbers.RelNo.{RelNo}
use Rattle.pg_base.specs.declared.rel_set.RelSet.{RelSet}
use Rattle.catalog.specs.Contents.{Contents, NamedIndex, IsIndex, indexes_of, numbers_from}
use Rattle.eq_classes.specs.Clauses.{Clause}
use Rattle.index_match.specs.Numbered.{Numbered, local, numbered}
use Rattle.sql_query.specs.Queries.{Query}
use Rattle.plan_tree.specs.Bitmaps.{ArePicked, none_left, picked, passed, AreElements, Element, by_clause, by_index, IsElement, MOST_ELEMENTS, candidates, table_of_relation}
use Rattle.plan_tree.specs.Plans.{all_hold}
use Rattle.plan_tree.specs.work.Views.{bits, element, trees_of}
use Rattle.plan_tree.specs.declared.bits.BitTrees.{BitTrees as Parts}
use Rattle.plan_tree.specs.declared.bits.BitTree.TheViews.{And, the_lemmas}
use Rattle.plan_tree.specs.declared.bits.BitTree.TheVariants.{rolls-And}
use Rattle.plan_tree.specs.declared.bits.BitTree.TheFolds.{fold-roll-BitTree, fold_out-BitTree, fold-roll-BitTrees, fold_out-BitTrees}
use Rattle.plan_tree.specs.declared.elements.Element.{Element as Chosen}
use Rattle.plan_tree.proofs.FrontLemmas.{all-sources}
use Rattle.bitmap_scan.specs.work.ElementTrees.{IsMade}
use Rattle.eq_classes.specs.Parts.{is_local}

-- what an AND of bitmap trees stands for
pub and-is : (parts : Parts) → bits (And parts) ≡ all_hold (trees_of (map bits parts.items.items))
and-is parts = search (rules, the_lemmas, rolls-And, fold-roll-BitTree, fold_out-BitTree, fold-roll-BitTrees, fold_out-BitTrees)

numbers-within : (k : ℕ) (xs : List NamedIndex) (t : TableNo) (m : ℕ) → k + length xs ≤ m → AllByRecursion (λ (i : IndexNo). i.0 < m) (numbers_from k xs t)
numbers-within k [] t m le = tt
numbers-within k (x ∷ xs) t m le = by (nat_eq x.index.table.0 t.0) (omega (arith, le)) (numbers-within (k + 1) xs t m (omega (arith, le)))
  where
    by : (b : Bool) → k < m → AllByRecursion (λ (i : IndexNo). i.0 < m) (numbers_from (k + 1) xs t) → AllByRecursion (λ (i : IndexNo). i.0 < m) (cond b (record { 0 = k } ∷ numbers_from (k + 1) xs t) (numbers_from (k + 1) xs t))
    by true lt rest = (lt, rest)
    by false lt rest = rest

clauses-within : (test : Clause → Bool) (k : ℕ) (xs : List Clause) (m : ℕ) → k + length xs ≤ m →
    AllByRecursion (λ (n : Numbered). n.number < m) (map (λ (p : ℕ × Clause). numbered (p.0, p.1.cond)) (filter (λ (p : ℕ × Clause). test p.1) (enumerate_from k xs)))
clauses-within test k [] m le = tt
clauses-within test k (x ∷ xs) m le = by (test x) (omega (arith, le)) (clauses-within test (k + 1) xs m (omega (arith, le)))
  where
    by : (b : Bool) → k < m → AllByRecursion (λ (n : Numbered). n.number < m) (map (λ (p : ℕ × Clause). numbered (p.0, p.1.cond)) (filter (λ (p : ℕ × Clause). test p.1) (enumerate_from (k + 1) xs))) →
        AllByRecursion (λ (n : Numbered). n.number < m) (map (λ (p : ℕ × Clause). numbered (p.0, p.1.cond)) (cond b ((k, x) ∷ filter (λ (p : ℕ × Clause). test p.1) (enumerate_from (k + 1) xs)) (filter (λ (p : ℕ × Clause). test p.1) (enumerate_from (k + 1) xs))))
    by true lt rest = (lt, rest)
    by false lt rest = rest

pub all-mapped : {A B : Type 0} (P : B → Type 0) (f : A → B) (xs : List A) → AllByRecursion (λ (x : A). P (f x)) xs → AllByRecursion P (map f xs)
all-mapped P f [] h = tt
all-mapped P f (x ∷ xs) h = (h.0, all-mapped P f xs h.1)

pub all-joined : {A : Type 0} (P : A → Type 0) (xs ys : List A) → AllByRecursion P xs → AllByRecursion P ys → AllByRecursion P (xs ++ ys)
all-joined P [] ys h k = k
all-joined P (x ∷ xs) ys h k = (h.0, all-joined P xs ys h.1 k)

pub all-weaker : {A : Type 0} (P Q : A → Type 0) → ((x : A) → P x → Q x) → (xs : List A) → AllByRecursion P xs → AllByRecursion Q xs
all-weaker P Q f [] h = tt
all-weaker P Q f (x ∷ xs) h = (f x h.0, all-weaker P Q f xs h.1)

-- what is picked has both the property of the picked and that of all
pub all-picked : {A : Type 0} (P Q : A → Type 0) (xs ys : List A) → ArePicked P xs ys → AllByRecursion Q xs → AllByRecursion (λ (x : A). Q x × P x) ys
all-picked P Q _ _ none_left all = tt
all-picked P Q _ _ (picked x xs ys h rest) all = ((all.0, h), all-picked P Q xs ys rest all.1)
all-picked P Q _ _ (passed x xs ys h rest) all = all-picked P Q xs ys rest all.1

module _ (c : Contents) (q : Query) (r : RelNo) (p : RelSet) where
  abbrev Exists : Element → Type 0
  Exists (by_index i) = IsIndex c i
  Exists (by_clause n) = n < length q.classes.clauses

  candidates-exist : AllByRecursion Exists (candidates c q r.0 (has p.0))
  candidates-exist =
      all-joined Exists (map by_index (indexes_of c (table_of_relation q r.0))) (map (λ (k : Numbered). by_clause k.number) (local q.classes r.0 (has p.0)))
      (all-mapped Exists by_index (indexes_of c (table_of_relation q r.0)) (numbers-within 0 c.indexes (table_of_relation q r.0) (length c.indexes) (omega arith)))
      (all-mapped Exists (λ (k : Numbered). by_clause k.number) (local q.classes r.0 (has p.0)) (clauses-within (is_local r.0 (has p.0)) 0 q.classes.clauses (length q.classes.clauses) (omega arith)))

  is-made : (e : Element) → Exists e × IsElement c q r.0 (has p.0) e → IsMade c q r p e
  is-made (by_index i) h = h.0
  is-made (by_clause n) h = (h.0, h.1)

  -- the first elements are made
  pub elements-made : (es : List Element) (xs : List Chosen) → AreElements c q r.0 (has p.0) es → map element xs ≡ take MOST_ELEMENTS es → All (λ (x : Chosen). IsMade c q r p (element x)) xs
  elements-made es xs are same =
      let both = all-picked (IsElement c q r.0 (has p.0)) Exists (candidates c q r.0 (has p.0)) es are candidates-exist in
      let made = All-from_recursion (IsMade c q r p) es (all-weaker (λ (e : Element). Exists e × IsElement c q r.0 (has p.0) e) (IsMade c q r p) is-made es both) in
      all-sources element (IsMade c q r p) xs (subst (All (IsMade c q r p)) (sym same) (All-take (IsMade c q r p) MOST_ELEMENTS es made))
