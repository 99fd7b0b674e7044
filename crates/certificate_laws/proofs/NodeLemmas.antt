-- What the entries of a table are has a text.
use Prim.Native.Nat.{suc, zero}
use Rattle.std.proofs.Common.{◌≡◌, ◌≤◌, inl, inr, ℕ, Bool, true, ◌||◌, List, [], ◌∷◌, length, map, take, refl, sym, ◌∙◌, ap, subst, arith}
use Rattle.std.specs.Prelude.{Option, None, Some, option_and_then, option_map, slice_get}
use Rattle.std.specs.List.{items_where_true}
use Rattle.std.proofs.lemmas.List.Elements.{All-from_recursion}
use Rattle.std.proofs.lemmas.Option.{get_or_from_slice_get, slice_get_within, none-some, same_Some}
use Rattle.pg_base.specs.Sets.{has}
use Rattle.pg_base.specs.declared.numbers.RelNo.{RelNo}
use Rattle.pg_base.specs.declared.rel_set.RelSet.{RelSet}
use Rattle.catalog.specs.Contents.{Contents, IsIndex}
use Rattle.eq_classes.specs.Clauses.{Clause, Set}
use Rattle.index_match.specs.Arms.{arms_of}
use Rattle.certificate_text.specs.explain_Texts.{conjunct_by}
use Rattle.explain_laws.proofs.BitLemmas.{AreTold, IsTold, IsTreeTold, tree-told}
use Rattle.plan_tree.proofs.PickedLemmas.{holds-picked as picked-is}
use Rattle.pathkeys.specs.Keys.{Keys}
use Rattle.sql_query.specs.Queries.{Query, width}
use Rattle.sql_query.specs.WellBound.{IsWellBound}
use Rattle.plan_tree.specs.Bitmaps.{ArePicked, Element, IsBitTree, IsElement, MOST_ELEMENTS, by_clause, candidates, condition_at, condition_by, element_of, elements_of, is_or}
use Rattle.plan_tree.specs.Plans.{BitTree, leaf, all_hold, some_arm, BitTrees, no_trees, tree_and, Plan, index, index_only, bitmap, nest, merge, set_of}
use Rattle.plan_tree.specs.Space.{IsBuilt}
use Rattle.plan_tree.proofs.CostableLemmas.{In, built-costable, in-contained, in-masked, in-taken}
use Rattle.certificate_text.specs.plan_check_Certificates.{Certificate, Entry, Node, Side, by_bitmap, by_index, by_index_only, by_merge, by_nest, by_seq, join_by, plan_at, plan_by, plan_of, plans_of, relation_in, side_at, sorted_if, unfold_at}
use Rattle.certificate_text.specs.plan_check_Limit.{MOST_ENTRIES}
use Rattle.certificate_text.specs.plan_check_UnfoldLemmas.{at-split, made-at}
use Rattle.certificate_text.specs.HasText.{HasBitsText, HasElementText, HasNodeText, HaveElementTexts, count}
use Rattle.certificate_laws.specs.work.Arms.{HasArmsInOrs}
use Rattle.certificate_laws.proofs.KeysLemmas.{keys-wider, list-outer}

-- a number that has a plan is at most that of the last
number-few : (plans : List (Option Plan)) (m : ℕ) (p : Plan) → plan_at plans m ≡ Some p → m ≤ length plans
number-few plans zero p h = omega arith
number-few plans (suc k) p h = by (slice_get plans k) refl h
  where
    by : (o : Option (Option Plan)) → slice_get plans k ≡ o → option_and_then (λ x. x) o ≡ Some p → suc k ≤ length plans
    by None e g = absurd (none-some p g)
    by (Some x) e g = let lt = slice_get_within plans k x e in omega (arith, lt)

-- what stands at a place of an entry is made of the entries before it
pub record IsMadeOf (q : Query) (t : Certificate) (e : Entry) (p : Plan) : Type 0 where
  pub before : List (Option Plan)
  pub few : length before ≤ length t.entries
  pub is : plan_of (width q) before e ≡ Some p

pub made-of : (q : Query) (t : Certificate) (n : ℕ) (e : Entry) (p : Plan) → slice_get t.entries n ≡ Some e → unfold_at q t (suc n) ≡ Some p → IsMadeOf q t e p
made-of q t n e p stands unfolds =
    let m = made-at (width q) [] t.entries n e stands in
    let lt = slice_get_within t.entries n e stands in
    let long = m.long in
    let at : slice_get (plans_of q t) n ≡ Some (plan_of (width q) m.made e) =
    ap (slice_get (plans_of q t)) (sym m.long) ∙ ap (λ (ps : List (Option Plan)). slice_get ps (length m.made)) m.is ∙ at-split m.made (plan_of (width q) m.made e) m.later in
    record {
      before = m.made;
      few = omega (arith, long, lt);
      is = sym (ap (option_and_then (λ (x : Option Plan). x)) at) ∙ unfolds;
    }

-- the parts of a join
pub record HasParts (f : Plan → Plan → Plan) (a b : Option Plan) (p : Plan) : Type 0 where
  pub outer : Plan
  pub inner : Plan
  pub first : a ≡ Some outer
  pub second : b ≡ Some inner
  pub is : f outer inner ≡ p

parts-of : (f : Plan → Plan → Plan) (a b : Option Plan) (p : Plan) → join_by f a b ≡ Some p → HasParts f a b p
parts-of f None b p h = absurd (none-some p h)
parts-of f (Some o) None p h = absurd (none-some p h)
parts-of f (Some o) (Some i) p h = record { outer = o; inner = i; first = refl; second = refl; is = same_Some (f o i) p h }

pub side-few : (plans : List (Option Plan)) (keys : Keys) (s : Side) (p : Plan) → side_at plans keys s ≡ Some p → s.entry ≤ length plans
side-few plans keys s p h = by (plan_at plans s.entry) refl h
  where
    by : (o : Option Plan) → plan_at plans s.entry ≡ o → option_map (sorted_if s.sorted keys) o ≡ Some p → s.entry ≤ length plans
    by None e g = absurd (none-some p g)
    by (Some x) e g = number-few plans s.entry x e

module _ (c : Contents) (q : Query) (bound : IsWellBound c q) (arms : HasArmsInOrs q) where
  -- a tree by the numbers of clauses that are ORs
  abbrev IsByOrs : BitTree → Type 0
  IsByOrs (leaf i) = Unit {0}
  IsByOrs (all_hold bs) = Unit {0}
  IsByOrs (some_arm n js) = is_or (condition_at q n) ≡ true

  abbrev AreByOrs : BitTrees → Type 0
  AreByOrs no_trees = Unit {0}
  AreByOrs (tree_and b bs) = IsByOrs b × AreByOrs bs

  abbrev IsTreeByOrs : BitTree → Type 0
  IsTreeByOrs (leaf i) = Unit {0}
  IsTreeByOrs (all_hold bs) = AreByOrs bs
  IsTreeByOrs (some_arm n js) = IsByOrs (some_arm n js)

  module _ (r : ℕ) (p : Set) (es : List Element) (are : ArePicked (IsElement c q r p) (candidates c q r p) es) where
    clause-or : (n : ℕ) → In (by_clause n) es → is_or (condition_at q n) ≡ true
    clause-or n i = (picked-is (IsElement c q r p) (by_clause n) (candidates c q r p) es are i).is_an_or

    child-or : (b : BitTree) (y : Element) → element_of c q r p b ≡ Some y → In y es → IsByOrs b
    child-or (leaf i) y e at = tt
    child-or (all_hold bs) y e at = tt
    child-or (some_arm n js) y e at = let is : by_clause n ≡ y = cc in clause-or n (subst (λ (x : Element). In x es) (sym is) at)

    children-or : (bs : BitTrees) (ys : List Element) → elements_of c q r p bs ≡ map Some ys → ((y : Element) → In y ys → In y es) → AreByOrs bs
    children-or no_trees ys e f = tt
    children-or (tree_and b bs) [] e f = cc
    children-or (tree_and b bs) (y ∷ ys) e f =
        let here : element_of c q r p b ≡ Some y = cc in
        let later : elements_of c q r p bs ≡ map Some ys = cc in
        (child-or b y here (f y (inl refl)), children-or bs ys later (λ z i. f z (inr i)))

  tree-or : (r : ℕ) (p : Set) (bits : BitTree) → IsBitTree c q r p bits → IsTreeByOrs bits
  tree-or r p (leaf i) is = tt
  tree-or r p (all_hold bs) is =
      let over = is.over in
      children-or r p is.elements is.are bs (items_where_true over.0 (take MOST_ELEMENTS is.elements)) over.1 (λ y i. in-taken MOST_ELEMENTS y is.elements (in-masked y over.0 (take MOST_ELEMENTS is.elements) i))
  tree-or r p (some_arm n js) is =
      let at = is.over.0 in
      clause-or r p is.elements is.are n (in-taken MOST_ELEMENTS (by_clause n) is.elements (in-contained (by_clause n) (take MOST_ELEMENTS is.elements) at.0 at.1 at.2))

  -- an OR that is a conjunct has an arm
  arms-some : (n : ℕ) (m : ℕ) (k : Option Clause) → slice_get q.classes.clauses n ≡ k → conjunct_by k ≡ Some m → is_or (condition_by k) ≡ true → 1 ≤ length (arms_of (condition_by k))
  arms-some n m None e g o = absurd (none-some m g)
  arms-some n m (Some x) e g o =
      let at = get_or_from_slice_get q.classes.clauses n x x e in
      subst (λ (y : Clause). is_or y.cond ≡ true → 1 ≤ length (arms_of y.cond)) at (arms n x (slice_get_within q.classes.clauses n x e)) o

  -- elements of bitmap trees
  told-text : (b : BitTree) → IsTold c q b → IsByOrs b → HasElementText c q b
  told-text (leaf i) h o = h
  told-text (all_hold bs) h o = h
  told-text (some_arm n js) h o =
      let some = arms-some n h.0.number (slice_get q.classes.clauses n) refl h.0.is o in
      let long = h.2 in
      (λ none. none-some h.0.number (sym none ∙ h.0.is), All-from_recursion (IsIndex c) js h.1, omega (arith, some, long))

  told-texts : (bs : BitTrees) → AreTold c q bs → AreByOrs bs → HaveElementTexts c q bs
  told-texts no_trees h o = tt
  told-texts (tree_and b bs) h o = (told-text b h.0 o.0, told-texts bs h.1 o.1)

  counted : (r : ℕ) (p : Set) (bs : BitTrees) → length (elements_of c q r p bs) ≡ count c q bs
  counted r p no_trees = refl
  counted r p (tree_and b bs) = ap suc (counted r p bs)

  bits-text : (r : ℕ) (p : Set) (bits : BitTree) → IsBitTree c q r p bits → IsTreeTold c q bits → IsTreeByOrs bits → HasBitsText c q bits
  bits-text r p (leaf i) is told o = told
  bits-text r p (some_arm n js) is told o = told-text (some_arm n js) told o
  bits-text r p (all_hold bs) is told o =
      let two = is.over.2 in
      let same = counted r p bs in
      (omega (arith, two, same), told-texts bs told o)

  -- what an entry is, whose plan is one of the space
  module _ (s : Set) (most : ℕ) (few : most ≤ MOST_ENTRIES) where
    scan-text : (n : ℕ) (set param : RelSet) (node : Node) (f : RelNo → Plan) (p : Plan) → option_map f (relation_in n set) ≡ Some p → ((r : RelNo) → f r ≡ p → HasNodeText c q s node) → HasNodeText c q s node
    scan-text n set param node f p e each = by (relation_in n set) e
      where
        by : (o : Option RelNo) → option_map f o ≡ Some p → HasNodeText c q s node
        by None g = absurd (none-some p g)
        by (Some r) g = each r (same_Some (f r) p g)

    pub node-text : (n : ℕ) (before : List (Option Plan)) (set param : RelSet) (node : Node) (p : Plan) → length before ≤ most → plan_by n before set param node ≡ Some p → IsBuilt c q p →
        ((k : ℕ) → set_of p k ≡ true → s k ≡ true) → HasNodeText c q s node
    node-text n before set param by_seq p low e built within = tt
    node-text n before set param (by_index i backward) p low e built within =
        scan-text n set param (by_index i backward) (λ r. index r i backward param) p e (λ r is. (subst (IsBuilt c q) (sym is) built).index.made)
    node-text n before set param (by_index_only i backward) p low e built within =
        scan-text n set param (by_index_only i backward) (λ r. index_only r i backward param) p e (λ r is. (subst (IsBuilt c q) (sym is) built).scan.index.made)
    node-text n before set param (by_bitmap bits) p low e built within =
        scan-text n set param (by_bitmap bits) (λ r. bitmap r param bits) p e each
      where
        each : (r : RelNo) → bitmap r param bits ≡ p → HasBitsText c q bits
        each r is =
            let here = subst (IsBuilt c q) (sym is) built in
            bits-text r.0 (has param.0) bits here.tree (tree-told c q bound r.0 (has param.0) bits here.tree (built-costable c q (bitmap r param bits) here).1) (tree-or r.0 (has param.0) bits here.tree)
    node-text n before set param (by_nest a b) p low e built within =
        let parts = parts-of nest (plan_at before a) (plan_at before b) p e in
        let x = number-few before a parts.outer parts.first in
        let y = number-few before b parts.inner parts.second in
        (omega (arith, x, low, few), omega (arith, y, low, few))
    node-text n before set param (by_merge keys a b) p low e built within =
        let parts = parts-of (merge keys) (side_at before keys a) (side_at before keys b) p e in
        let o = parts.outer in
        let i = parts.inner in
        let x = side-few before keys a o parts.first in
        let y = side-few before keys b i parts.second in
        let here = subst (IsBuilt c q) (sym parts.is) built in
        let list = here.2.list in (
          keys-wider q (set_of o) s (λ k is. within k (ap (λ (u : Plan). set_of u k) (sym parts.is) ∙ ap (λ (v : Bool). v || set_of i k) is)) keys (list-outer c q (set_of o) (set_of i) keys list),
          list.some,
          omega (arith, x, low, few),
          omega (arith, y, low, few),
        )
