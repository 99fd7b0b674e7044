-- Elements of a bitmap tree read one after the other.
use Rattle.std.proofs.Common.{◌≡◌, ◌≤◌, ℕ, suc, true, List, [], ◌∷◌, ◌++◌, codes, length, map, refl, sym, ap, ◌∙◌, subst, arith}
use Rattle.std.specs.Prelude.{All, IfSome, Option, Some, None, option_map}
use Rattle.std.proofs.lemmas.List.{length-map, map-append}
use Rattle.std.proofs.lemmas.List.Elements.{All-cons, All-head, All-push, All-tail}
use Rattle.catalog.specs.Contents.{Contents}
use Rattle.certificate_text.specs.explain_Texts.{with_commas}
use Rattle.certificate_text.specs.work.Words.{stops}
use Rattle.plan_tree.specs.Plans.{BitTree, BitTrees, no_trees, tree_and}
use Rattle.plan_tree.specs.work.Views.{bits, bits_all, trees_of}
use Rattle.plan_tree.specs.declared.bits.BitTree.{BitTree as Bits}
use Rattle.sql_query.specs.Queries.{Query}
use Rattle.certificate_text.specs.HasText.{HasElementText, HaveElementTexts, count}
use Rattle.certificate_text.specs.Texts.{tree_text, tree_texts}
use Rattle.certificate_entries.specs.work.Parts.{Reads, has_no_comma}
use Rattle.pg_base.proofs.OptionLemmas.{none-some-too as none-some}
use Rattle.pg_base.proofs.OptionLemmas.{some-same}
use Rattle.certificate_entries.proofs.ListLemmas.{IsListLeft, all-taken, first-none, first-taken, next-none, next-taken}

module _ (c : Contents) (q : Query) where
  pub comma : (l : List ℕ) → stops (44 ∷ l) ≡ true
  comma l = refl

  -- the elements read so far
  pub record AreElements (old : List ℕ) (elements : List Bits) (left : List ℕ) : Type 0 where
    pub has : All (HasElementText c q) (map bits elements)
    pub list : IsListLeft (HasElementText c q) (tree_text c q) (λ r. stops r ≡ true) comma old (map bits elements) left
    pub shorter : length left ≤ length old

  abbrev pub IsItem : List ℕ → List ℕ → Option Bits → Type 0
  IsItem old new o = Reads (HasElementText c q) (tree_text c q) old new (option_map bits o)

  pub elements-first : (old new : List ℕ) (o : Option Bits) (b : Bits) (elements : List Bits) → IsItem old new o → o ≡ Some b → HasElementText c q (bits b) → elements ≡ b ∷ [] → length new ≤ length old → AreElements old elements new
  elements-first old new o b elements item found has is less = subst (λ (l : List Bits). AreElements old l new) (sym is) (record {
    has = All-cons (HasElementText c q) (bits b) [] has (λ i d lt. absurd (omega (arith, lt)));
    list = first-taken (HasElementText c q) (tree_text c q) (λ r. stops r ≡ true) comma old new (option_map bits o) (bits b) item.only (ap (option_map bits) found);
    shorter = less;
  })

  pub elements-none : (old new : List ℕ) (o : Option Bits) → IsItem old new o → o ≡ None → (bs : List BitTree) (rest : List ℕ) → All (HasElementText c q) bs → 1 ≤ length bs → stops rest ≡ true → old ≡ with_commas [] (map (tree_text c q) bs) ++ rest → ⊥
  elements-none old new o item none = first-none (HasElementText c q) (tree_text c q) (λ r. stops r ≡ true) comma old new (option_map bits o) item.only (ap (option_map bits) none)

  pub elements-next : (old left mid new : List ℕ) (elements more : List Bits) (o : Option Bits) (b : Bits) → AreElements old elements left → left ≡ codes ", " ++ mid → IsItem mid new o → o ≡ Some b → HasElementText c q (bits b) → more ≡ elements ++ b ∷ [] →
      length mid ≤ length left → length new ≤ length mid → AreElements old more new
  elements-next old left mid new elements more o b before is item found has all less least = subst (λ (l : List Bits). AreElements old l new) (sym all) (record {
    has = subst (All (HasElementText c q)) (sym (map-append bits elements (b ∷ []))) (All-push (HasElementText c q) (map bits elements) (bits b) before.has has);
    list = subst (λ (l : List BitTree). IsListLeft (HasElementText c q) (tree_text c q) (λ r. stops r ≡ true) comma old l new) (sym (map-append bits elements (b ∷ [])))
        (next-taken (HasElementText c q) (tree_text c q) (λ r. stops r ≡ true) comma old left mid new (map bits elements) (option_map bits o) (bits b) before.list is item.only (ap (option_map bits) found));
    shorter = let first = before.shorter in omega (arith, first, less, least);
  })

  pub elements-broken : (old left mid new : List ℕ) (elements : List Bits) (o : Option Bits) → AreElements old elements left → left ≡ codes ", " ++ mid → IsItem mid new o → o ≡ None →
      (bs : List BitTree) (rest : List ℕ) → All (HasElementText c q) bs → 1 ≤ length bs → stops rest ≡ true → has_no_comma rest ≡ true → old ≡ with_commas [] (map (tree_text c q) bs) ++ rest → ⊥
  elements-broken old left mid new elements o before is item none =
      next-none (HasElementText c q) (tree_text c q) (λ r. stops r ≡ true) comma old left mid new (map bits elements) (option_map bits o) before.list is item.only (ap (option_map bits) none)

  pub elements-done : (old left new : List ℕ) (elements : List Bits) → AreElements old elements left → ((r : List ℕ) → left ≡ codes ", " ++ r → ⊥) → new ≡ left →
      (bs : List BitTree) (rest : List ℕ) → All (HasElementText c q) bs → 1 ≤ length bs → stops rest ≡ true → has_no_comma rest ≡ true → old ≡ with_commas [] (map (tree_text c q) bs) ++ rest → (map bits elements ≡ bs) × (new ≡ rest)
  elements-done old left new elements before other same = all-taken (HasElementText c q) (tree_text c q) (λ r. stops r ≡ true) comma old left new (map bits elements) before.list other same

  -- the trees of an AND as a list
  abbrev pub in_list : BitTrees → List BitTree
  in_list no_trees = []
  in_list (tree_and b bs) = b ∷ in_list bs

  pub in_list-back : (bs : BitTrees) → trees_of (in_list bs) ≡ bs
  in_list-back no_trees = refl
  in_list-back (tree_and b bs) = ap (tree_and b) (in_list-back bs)

  pub in_list-long : (bs : BitTrees) → length (in_list bs) ≡ count c q bs
  in_list-long no_trees = refl
  in_list-long (tree_and b bs) = ap suc (in_list-long bs)

  pub in_list-texts : (bs : BitTrees) → tree_texts c q bs ≡ map (tree_text c q) (in_list bs)
  in_list-texts no_trees = refl
  in_list-texts (tree_and b bs) = ap (λ (l : List (List ℕ)). tree_text c q b ∷ l) (in_list-texts bs)

  pub in_list-has : (bs : BitTrees) → HaveElementTexts c q bs → All (HasElementText c q) (in_list bs)
  in_list-has no_trees h = λ i d lt. absurd (omega (arith, lt))
  in_list-has (tree_and b bs) h = All-cons (HasElementText c q) b (in_list bs) h.0 (in_list-has bs h.1)

  -- a list of trees as those of an AND
  pub trees-has : (bs : List BitTree) → All (HasElementText c q) bs → HaveElementTexts c q (trees_of bs)
  trees-has [] h = tt
  trees-has (b ∷ bs) h = (All-head (HasElementText c q) b bs h, trees-has bs (All-tail (HasElementText c q) b bs h))

  pub trees-count : (bs : List BitTree) → count c q (trees_of bs) ≡ length bs
  trees-count [] = refl
  trees-count (b ∷ bs) = ap suc (trees-count bs)

  -- an AND of elements that were read
  pub and-has : (items : List Bits) → 2 ≤ length items → All (HasElementText c q) (map bits items) → (2 ≤ count c q (bits_all items)) × HaveElementTexts c q (bits_all items)
  and-has items some h = (let long = length-map items bits in let counted = trees-count (map bits items) in omega (arith, long, counted, some), trees-has (map bits items) h)

  pub element-has : (o : Option Bits) (b : Bits) → o ≡ Some b → IfSome o (λ x. HasElementText c q (bits x)) → HasElementText c q (bits b)
  element-has o b is h = subst (λ (o : Option Bits). IfSome o (λ x. HasElementText c q (bits x))) is h

-- what an option of a list holds
pub held-is : {B A : Type 0} (o : Option B) (v : B) (f : B → A) (l : A) → o ≡ Some v → option_map f o ≡ Some l → f v ≡ l
held-is o v f l is h = some-same (f v) l (sym (ap (option_map f) is) ∙ h)

pub held-none : {B A : Type 0} (o : Option B) (f : B → A) (l : A) → o ≡ None → option_map f o ≡ Some l → ⊥
held-none o f l is h = none-some (option_map f o) l (ap (option_map f) is) h

pub held-has : {B A : Type 0} (P : A → Type 0) (o : Option B) (v : B) (f : B → A) → o ≡ Some v → IfSome o (λ x. P (f x)) → P (f v)
held-has {B = B} P o v f is h = subst (λ (o : Option B). IfSome o (λ x. P (f x))) is h
