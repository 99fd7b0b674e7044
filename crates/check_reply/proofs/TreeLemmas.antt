-- The bitmap tree of a candidate is that of the elements that are marked, with the indexes of their arms in order.
use Rattle.std.proofs.Common.{◌≡◌, ◌≢◌, ◌<◌, ◌≤◌, ◌-◌, ◌+◌, ◌/◌, ◌%◌, ℕ, suc, Bool, true, false, cond, nat_eq, List, [], ◌∷◌, ◌++◌, drop, get_or, length, map, take, refl, sym, ap, subst, ◌∙◌, arith, append_assoc}
use Rattle.std.specs.Prelude.{Some, replicate}
use Rattle.std.proofs.Math.Seq.{drop-append_seam, take-append_seam}
use Rattle.std.proofs.lemmas.Bool.{eq-eqb, ne_eqb}
use Rattle.std.proofs.lemmas.List.{append-nil, drop_more, length-map, length-take, map-append}
use Rattle.pg_base.specs.declared.numbers.IndexNo.{IndexNo}
use Rattle.pg_expr.specs.Cond.{Cond, any_of}
use Rattle.pg_expr.specs.work.View.{cond as condition, conds}
use Rattle.pg_expr.specs.declared.expr.Expr.{Expr}
use Rattle.eq_classes.proofs.ConditionLemmas.{listed_conds}
use Rattle.catalog.specs.Contents.{Contents}
use Rattle.eq_classes.specs.Clauses.{Set}
use Rattle.index_match.specs.Arms.{arms_of}
use Rattle.sql_query.specs.Queries.{Query}
use Rattle.plan_tree.specs.Bitmaps.{AreElements, Element, HasArms, HaveArms, IsBitTree, IsElement, MOST_ELEMENTS, MatchesArm, by_clause, by_index, candidates, condition_at, element_of, elements_of}
use Rattle.plan_tree.specs.Plans.{BitTree, leaf, all_hold, some_arm, BitTrees, no_trees, tree_and}
use Rattle.plan_tree.specs.work.Views.{bits, element, trees_of}
use Rattle.plan_tree.specs.declared.bits.BitTree.{BitTree as Bits}
use Rattle.plan_tree.specs.declared.elements.Element.{Element as Chosen}
use Rattle.plan_space.proofs.TreeLemmas.{picked-once}
use Rattle.bitmap_scan.specs.work.Chosen.{combined, marked}
use Rattle.bitmap_scan.proofs.KeptLemmas.{combined-many}
use Rattle.pg_base.proofs.ListLemmas.{zip-length}
use Rattle.certificate_check.specs.scan_cover_MarkLemmas.{mask-marks}
use Rattle.plan_check.specs.Plains.{IsTreeOf, arms_in, arms_in_all, elements_in}
use Rattle.check_reply.specs.work.Telling.{arms_taken, tree_by, trees_by}

-- the arms of an OR, counted
pub arms-counted : (e : Cond) (arms : List Expr) → e ≡ any_of (conds arms) → length arms ≡ length (arms_of e)
arms-counted e arms is = sym (length-map arms condition) ∙ sym (ap length (listed_conds (map condition arms))) ∙ ap (λ (x : Cond). length (arms_of x)) (sym is)

-- where there is not just one tree, they are an AND
pub and-combined : (ts : List BitTree) → length ts ≢ 1 → all_hold (trees_of ts) ≡ combined ts
and-combined [] h = refl
and-combined (t ∷ []) h = absurd (h refl)
and-combined (t ∷ (u ∷ us)) h = refl

-- the trees of an AND in a list
abbrev pub in_list : BitTrees → List BitTree
in_list no_trees = []
in_list (tree_and b bs) = b ∷ in_list bs

-- a tree as the elements that it is an AND of
abbrev trees_in : BitTree → BitTrees
trees_in (leaf i) = tree_and (leaf i) no_trees
trees_in (some_arm k is) = tree_and (some_arm k is) no_trees
trees_in (all_hold bs) = bs

abbrev IsSeveral : BitTree → Type 0
IsSeveral (leaf i) = Unit {0}
IsSeveral (some_arm k is) = Unit {0}
IsSeveral (all_hold bs) = 2 ≤ length (in_list bs)

list-back : (bs : BitTrees) → trees_of (in_list bs) ≡ bs
list-back no_trees = refl
list-back (tree_and b bs) = ap (tree_and b) (list-back bs)

-- what was made of the first elements, and what is to be made of the others, make the whole
pub record IsMadeSo (q : Query) (mask : ℕ) (es : List Element) (is : List IndexNo) (made : List BitTree) (left : ℕ) (rest : List Element) (others : List IndexNo) : Type 0 where
  pub whole : made ++ trees_by q left rest others ≡ trees_by q mask es is

module _ (q : Query) where
  pub made-more : (mask left : ℕ) (es rest : List Element) (is others : List IndexNo) (made : List BitTree) (e : Element) → nat_eq (left % 2) 1 ≡ true →
      IsMadeSo q mask es is made left (e ∷ rest) others → IsMadeSo q mask es is (made ++ tree_by e (take (arms_taken q e) others) ∷ []) (left / 2) rest (drop (arms_taken q e) others)
  made-more mask left es rest is others made e odd h =
      record {
        whole = append_assoc made (tree_by e (take (arms_taken q e) others) ∷ []) (trees_by q (left / 2) rest (drop (arms_taken q e) others))
            ∙ ap (λ (b : Bool). made ++ cond b (tree_by e (take (arms_taken q e) others) ∷ trees_by q (left / 2) rest (drop (arms_taken q e) others)) (trees_by q (left / 2) rest others)) (sym odd)
            ∙ h.whole;
      }

  pub made-passed : (mask left : ℕ) (es rest : List Element) (is others : List IndexNo) (made : List BitTree) (e : Element) → nat_eq (left % 2) 1 ≡ false →
      IsMadeSo q mask es is made left (e ∷ rest) others → IsMadeSo q mask es is made (left / 2) rest others
  made-passed mask left es rest is others made e even h =
      record {
        whole = ap (λ (b : Bool). made ++ cond b (tree_by e (take (arms_taken q e) others) ∷ trees_by q (left / 2) rest (drop (arms_taken q e) others)) (trees_by q (left / 2) rest others)) (sym even)
            ∙ h.whole;
      }

  pub made-all : (mask left : ℕ) (es : List Element) (is others : List IndexNo) (made : List BitTree) → IsMadeSo q mask es is made left [] others → made ≡ trees_by q mask es is
  made-all mask left es is others made h = sym (append-nil made) ∙ h.whole

  -- the next element that there is, made with the first ones
  module _ (mask left n : ℕ) (els : List Chosen) (is others : List IndexNo) (old : List Bits) (d : Chosen) (lt : n < length els)
      (h : IsMadeSo q mask (map element els) is (map bits old) left (map element (drop n els)) others) where
    at-next : IsMadeSo q mask (map element els) is (map bits old) left (element (get_or els n d) ∷ map element (drop (n + 1) els)) others
    at-next = subst (λ (xs : List Chosen). IsMadeSo q mask (map element els) is (map bits old) left (map element xs) others) (drop_more els n d lt) h

    pub next-made : (own rest : List IndexNo) (new : List Bits) (b : Bits) (k : ℕ) → left % 2 ≡ 1 → k ≡ arms_taken q (element (get_or els n d)) → own ≡ take k others → rest ≡ drop k others →
        bits b ≡ tree_by (element (get_or els n d)) own → new ≡ old ++ b ∷ [] → IsMadeSo q mask (map element els) is (map bits new) (left / 2) (map element (drop (n + 1) els)) rest
    next-made own rest new b k odd count first after tree more =
        let e = element (get_or els n d) in
        let made : map bits new ≡ map bits old ++ tree_by e (take (arms_taken q e) others) ∷ [] =
        ap (map bits) more ∙ map-append bits old (b ∷ []) ∙ ap (λ (x : BitTree). map bits old ++ x ∷ []) (tree ∙ ap (tree_by e) (first ∙ ap (λ (m : ℕ). take m others) count)) in
        let left_over : rest ≡ drop (arms_taken q e) others = after ∙ ap (λ (m : ℕ). drop m others) count in
        subst (λ (ts : List BitTree). IsMadeSo q mask (map element els) is ts (left / 2) (map element (drop (n + 1) els)) rest) (sym made)
        (subst (λ (js : List IndexNo). IsMadeSo q mask (map element els) is (map bits old ++ tree_by e (take (arms_taken q e) others) ∷ []) (left / 2) (map element (drop (n + 1) els)) js) (sym left_over)
        (made-more mask left (map element els) (map element (drop (n + 1) els)) is others (map bits old) e (eq-eqb (left % 2) 1 odd) at-next))

    pub next-passed : (left % 2 ≡ 1 → ⊥) → IsMadeSo q mask (map element els) is (map bits old) (left / 2) (map element (drop (n + 1) els)) others
    next-passed even = made-passed mask left (map element els) (map element (drop (n + 1) els)) is others (map bits old) (element (get_or els n d)) (ne_eqb (left % 2) 1 even) at-next

module _ (c : Contents) (q : Query) (r : ℕ) (p : Set) where
  -- a tree that is an element takes its own indexes
  own-indexes : (x : Element) (b : BitTree) (others : List IndexNo) (n : ℕ) (es : List Element) (bs : List BitTree) → element_of c q r p b ≡ Some x → HasArms c q r p b → trees_by q n es others ≡ bs →
      tree_by x (take (arms_taken q x) (arms_in b ++ others)) ∷ trees_by q n es (drop (arms_taken q x) (arms_in b ++ others)) ≡ b ∷ bs
  own-indexes x (leaf i) others n es bs e h rest =
      let same : by_index i ≡ x = cc in
      subst (λ (y : Element). tree_by y (take (arms_taken q y) others) ∷ trees_by q n es (drop (arms_taken q y) others) ≡ leaf i ∷ bs) same (ap (λ (ts : List BitTree). leaf i ∷ ts) rest)
  own-indexes x (all_hold ds) others n es bs e h rest = cc
  own-indexes x (some_arm k is) others n es bs e h rest =
      let same : by_clause k ≡ x = cc in
      let long = zip-length (MatchesArm c q r) (arms_of (condition_at q k)) is h in
      subst (λ (y : Element). tree_by y (take (arms_taken q y) (is ++ others)) ∷ trees_by q n es (drop (arms_taken q y) (is ++ others)) ≡ some_arm k is ∷ bs) same
      (subst (λ (m : ℕ). some_arm k (take m (is ++ others)) ∷ trees_by q n es (drop m (is ++ others)) ≡ some_arm k is ∷ bs) (sym long)
      (ap (λ (js : List IndexNo). some_arm k js ∷ trees_by q n es (drop (length is) (is ++ others))) (take-append_seam is others)
      ∙ ap (λ (js : List IndexNo). some_arm k is ∷ trees_by q n es js) (drop-append_seam is others)
      ∙ ap (λ (ts : List BitTree). some_arm k is ∷ ts) rest))

  -- trees that are elements take their own indexes
  trees-are : (es : List Element) (n : ℕ) (bs : BitTrees) (pad : List IndexNo) → elements_of c q r p bs ≡ map Some (marked n es) → HaveArms c q r p bs → trees_by q n es (arms_in_all bs ++ pad) ≡ in_list bs
  trees-are [] n no_trees pad e h = refl
  trees-are [] n (tree_and b bs) pad e h = cc
  trees-are (x ∷ es) n bs pad e h = by (nat_eq (n % 2) 1) bs e h (λ ds. trees-are es (n / 2) ds pad)
    where
      by : (d : Bool) (bs : BitTrees) → elements_of c q r p bs ≡ map Some (cond d (x ∷ marked (n / 2) es) (marked (n / 2) es)) → HaveArms c q r p bs →
          ((ds : BitTrees) → elements_of c q r p ds ≡ map Some (marked (n / 2) es) → HaveArms c q r p ds → trees_by q (n / 2) es (arms_in_all ds ++ pad) ≡ in_list ds) →
          cond d (tree_by x (take (arms_taken q x) (arms_in_all bs ++ pad)) ∷ trees_by q (n / 2) es (drop (arms_taken q x) (arms_in_all bs ++ pad))) (trees_by q (n / 2) es (arms_in_all bs ++ pad)) ≡ in_list bs
      by false bs e h later = later bs e h
      by true no_trees e h later = cc
      by true (tree_and b bs) e h later =
          let here : element_of c q r p b ≡ Some x = cc in
          let more : elements_of c q r p bs ≡ map Some (marked (n / 2) es) = cc in
          let parted = append_assoc (arms_in b) (arms_in_all bs) pad in
          subst (λ (js : List IndexNo). tree_by x (take (arms_taken q x) js) ∷ trees_by q (n / 2) es (drop (arms_taken q x) js) ≡ b ∷ in_list bs) (sym parted)
          (own-indexes x b (arms_in_all bs ++ pad) (n / 2) es (in_list bs) here h.0 (later bs more h.1))

  -- the trees that are marked make the candidate's
  made-tree : (es : List Element) (n : ℕ) (bits : BitTree) (pad : List IndexNo) → elements_in c q r p bits ≡ map Some (marked n es) → HaveArms c q r p (trees_in bits) → IsSeveral bits → combined (trees_by q n es (arms_in bits ++ pad)) ≡ bits
  made-tree es n bits pad e h two = by bits e h two
    where
      by : (b : BitTree) → elements_in c q r p b ≡ map Some (marked n es) → HaveArms c q r p (trees_in b) → IsSeveral b → combined (trees_by q n es (arms_in b ++ pad)) ≡ b
      by (leaf i) e h two = ap combined (trees-are es n (tree_and (leaf i) no_trees) pad e h)
      by (some_arm k is) e h two =
          ap (λ (js : List IndexNo). combined (trees_by q n es (js ++ pad))) (sym (append-nil is)) ∙ ap combined (trees-are es n (tree_and (some_arm k is) no_trees) pad e h)
      by (all_hold bs) e h two =
          ap combined (trees-are es n bs pad e h) ∙ sym (combined-many (in_list bs) two) ∙ ap all_hold (list-back bs)

  elements-long : (bs : BitTrees) → length (elements_of c q r p bs) ≡ length (in_list bs)
  elements-long no_trees = refl
  elements-long (tree_and b bs) = ap suc (elements-long bs)

  has-arms : (bits : BitTree) → IsBitTree c q r p bits → HaveArms c q r p (trees_in bits)
  has-arms (leaf i) is = (tt, tt)
  has-arms (some_arm k js) is = (is.over.1, tt)
  has-arms (all_hold bs) is = is.over.3

  is-several : (bits : BitTree) → IsBitTree c q r p bits → IsSeveral bits
  is-several (leaf i) is = tt
  is-several (some_arm k js) is = tt
  is-several (all_hold bs) is = let two = is.over.2 in let long = elements-long bs in omega (arith, two, long)

  -- the tree of a candidate, over the elements that are found
  pub tree-told : (n : ℕ) (arms : List IndexNo) (bits : BitTree) (found : List Element) → ((es : List Element) × AreElements c q r p es × (found ≡ take MOST_ELEMENTS es)) → IsTreeOf c q r p n arms bits → IsBitTree c q r p bits →
      combined (trees_by q n found arms) ≡ bits
  tree-told n arms bits found first of is =
      let es = first.0 in
      let P : Element → Type 0 = IsElement c q r p in
      let same : of.found ≡ es = picked-once P (candidates c q r p) of.found es of.are first.1 in
      let taken : take MOST_ELEMENTS of.found ≡ found = ap (take MOST_ELEMENTS) same ∙ sym first.2 in
      let count = length-take MOST_ELEMENTS of.found in
      let few : length (take MOST_ELEMENTS of.found) ≤ 8 = omega (arith, count) in
      let chosen : elements_in c q r p bits ≡ map Some (marked n found) = of.chosen ∙ ap (map Some) (mask-marks n (take MOST_ELEMENTS of.found) few) ∙ ap (λ (xs : List Element). map Some (marked n xs)) taken in
      ap (λ (js : List IndexNo). combined (trees_by q n found js)) of.arms_are ∙ made-tree found n bits (replicate (256 - length (arms_in bits)) (record { 0 = 0 })) chosen (has-arms bits is) (is-several bits is)
