-- What is kept of elements, and what some of them together use and cost.
use Rattle.std.proofs.Common.{◌≡◌, ◌<◌, ◌≤◌, ℕ, suc, ◌+◌, ◌/◌, ◌%◌, Bool, true, false, not, cond, ◌&&◌, ◌||◌, nat_eq, nat_lt, List, [], ◌∷◌, ◌++◌, length, map, take, drop, sum, get_or, refl, sym, ◌∙◌, ap, ap₂, subst, arith, true≢false}
use Rattle.std.specs.Prelude.{All}
use Rattle.std.specs.List.{AllZip, list_any}
use Rattle.std.proofs.Math.ListN.{drop_of_length-le}
use Rattle.std.proofs.lemmas.Grind.{common_steps}
use Rattle.std.proofs.lemmas.List.{drop_more, take_more, map-append}
use Rattle.std.proofs.lemmas.List.Elements.{All-push, All-head, All-tail, All-cons, All-nil}
use Rattle.std.proofs.Math.Bool.{and-false}
use Rattle.pg_base.specs.Sets.{has}
use Rattle.pg_base.specs.declared.numbers.RelNo.{RelNo}
use Rattle.pg_base.specs.declared.rel_set.RelSet.{RelSet}
use Rattle.pg_expr.specs.work.AtomSets.{contains}
use Rattle.pg_expr.specs.Columns.{names_rel}
use Rattle.pg_expr.specs.Cond.{Cond}
use Rattle.catalog.specs.Contents.{Contents}
use Rattle.eq_classes.specs.Clauses.{Clause}
use Rattle.path_cost.specs.Estimates.{conditions_from}
use Rattle.sql_query.specs.Queries.{Query}
use Rattle.cost_rules.specs.work.Costs.{capped}
use Rattle.plan_tree.specs.Plans.{BitTree, all_hold}
use Rattle.plan_tree.specs.Bitmaps.{uses, some_uses}
use Rattle.plan_tree.specs.Costs.{part_of, parts_of_all, together}
use Rattle.plan_tree.specs.Space.{others_named}
use Rattle.plan_tree.specs.work.Views.{element, trees_of}
use Rattle.plan_tree.specs.declared.elements.Element.{Element}
use Rattle.plan_tree.proofs.FrontLemmas.{all-sources}
use Rattle.bitmap_scan.specs.work.Chosen.{combined, marked, IsLeastTree}
use Rattle.bitmap_scan.specs.work.ElementTrees.{IsKept, named_in, tree_in}
use Rattle.bitmap_scan.specs.declared.element_tree.ElementTree.{ElementTree}
use Rattle.bitmap_scan.proofs.ArmLemmas.{zip-push}
use Rattle.pg_base.proofs.ListLemmas.{sum-cons}

pub capped-both : (a b m n : ℕ) → a ≡ capped b → capped m ≡ capped n → capped (a + m) ≡ capped (b + n)
capped-both a b m n e f = omega (arith, e, f)

pub capped-child : (us vs : List ℕ) → length us ≡ length vs → capped (sum us) ≡ capped (sum vs) → capped (together us) ≡ capped (together vs)
capped-child us vs e h = omega (arith, e, h)

or-first : (f a b w : Bool) → w ≡ a || b → f || w ≡ (f || a) || (f || b)
or-first true a b w e = refl
or-first false a b w e = e

or-left : (f a b w : Bool) → w ≡ a || b → f || w ≡ (f || a) || b
or-left true a b w e = refl
or-left false a b w e = e

or-right : (f a b w : Bool) → w ≡ a || b → f || w ≡ a || (f || b)
or-right true true b w e = refl
or-right true false b w e = refl
or-right false a b w e = e

-- the conditions of the clauses of no set, and of those of two sets together
any-none : (f : Cond → Bool) (n : ℕ) (ks : List Clause) → list_any f (conditions_from n (λ j. false) ks) ≡ false
any-none f n [] = refl
any-none f n (x ∷ ks) = any-none f (n + 1) ks

any-either : (f : Cond → Bool) (g h : ℕ → Bool) (n : ℕ) (ks : List Clause) → list_any f (conditions_from n (λ j. g j || h j) ks) ≡ list_any f (conditions_from n g ks) || list_any f (conditions_from n h ks)
any-either f g h n [] = refl
any-either f g h n (x ∷ ks) = by (any-either f g h (n + 1) ks) (g n) (h n)
  where
    both : List Cond
    both = conditions_from (n + 1) (λ j. g j || h j) ks

    one : List Cond
    one = conditions_from (n + 1) g ks

    other : List Cond
    other = conditions_from (n + 1) h ks

    by : list_any f both ≡ list_any f one || list_any f other → (a b : Bool) →
        list_any f (cond (a || b) (x.cond ∷ both) both) ≡ list_any f (cond a (x.cond ∷ one) one) || list_any f (cond b (x.cond ∷ other) other)
    by later true true = or-first (f x.cond) (list_any f one) (list_any f other) (list_any f both) later
    by later true false = or-left (f x.cond) (list_any f one) (list_any f other) (list_any f both) later
    by later false true = or-right (f x.cond) (list_any f one) (list_any f other) (list_any f both) later
    by later false false = later

-- what the clauses of some elements name together
others-either : (a e f w : Bool) → w ≡ e || f → a && w ≡ (a && e) || (a && f)
others-either true e f w h = h
others-either false e f w h = refl

module _ (c : Contents) (q : Query) (r : RelNo) (p : RelSet) where
  -- what is kept of some elements
  pub record AreKept (es : List Element) (ks : List ElementTree) : Type 0 where
    pub least : AllZip (IsLeastTree c q r p) (map element es) (map tree_in ks)
    pub each : All (IsKept c q r p) ks

  pub none-kept : AreKept [] []
  none-kept = record { least = tt; each = All-nil (IsKept c q r p) }

  pub one-kept : (es : List Element) (ks : List ElementTree) (i : ℕ) (d : Element) (k : ElementTree) → i < length es → AreKept (take i es) ks → IsLeastTree c q r p (element (get_or es i d)) (tree_in k) → IsKept c q r p k → AreKept (take (i + 1) es) (ks ++ k ∷ [])
  one-kept es ks i d k lt h least kept = record {
    least =
        let left = ap (map element) (take_more es i d lt) ∙ map-append element (take i es) (get_or es i d ∷ []) in
        let right = map-append tree_in ks (k ∷ []) in
        let zip = zip-push (IsLeastTree c q r p) (map element (take i es)) (map tree_in ks) (element (get_or es i d)) (tree_in k) h.least least in
        subst (λ (ts : List BitTree). AllZip (IsLeastTree c q r p) (map element (take (i + 1) es)) ts) (sym right) (rw left zip);
    each = All-push (IsKept c q r p) ks k h.each kept;
  }

  -- a tree's part and clauses are what is kept
  pub kept-of : (k : ElementTree) (t : BitTree) → tree_in k ≡ t → k.part ≡ capped (part_of c q r p t) → ((n : ℕ) → contains k.used n ≡ uses c q r.0 (has p.0) t n) → ((n : ℕ) → contains k.used n ≡ true → n < length q.classes.clauses) →
      ((n : ℕ) → has k.named.0 n ≡ others_named r.0 (conditions_from 0 (contains k.used) q.classes.clauses) n) → IsKept c q r p k
  kept-of k t same part used within named = record {
    part = subst (λ (u : BitTree). k.part ≡ capped (part_of c q r p u)) (sym same) part;
    used = subst (λ (u : BitTree). (n : ℕ) → contains k.used n ≡ uses c q r.0 (has p.0) u n) (sym same) used;
    within = within;
    named = named;
  }

  or-false : (b : Bool) → b || false ≡ b
  or-false true = refl
  or-false false = refl

  combined-uses : (ts : List BitTree) (n : ℕ) → some_uses c q r.0 (has p.0) (trees_of ts) n ≡ uses c q r.0 (has p.0) (combined ts) n
  combined-uses [] n = refl
  combined-uses (t ∷ []) n = or-false (uses c q r.0 (has p.0) t n)
  combined-uses (t ∷ (u ∷ us)) n = refl

  within-one : (k : ElementTree) (n : ℕ) (rest b : Bool) → IsKept c q r p k → contains k.used n ≡ b → (rest ≡ true → n < length q.classes.clauses) → b || rest ≡ true → n < length q.classes.clauses
  within-one k n rest true h g later e = h.within n g
  within-one k n rest false h g later e = later e

  inside : (n m : ℕ) (b : Bool) → (b ≡ true → n < m) → nat_lt n m && b ≡ b
  inside n m true h = let lt = h refl in grind (arith, common_steps, lt)
  inside n m false h = grind (arith, common_steps)

  one-part : (n : ℕ) → capped (together (n ∷ [])) ≡ capped n
  one-part n = let e = sum-cons n [] in omega (arith, e)

  combined-part : (ts : List BitTree) → capped (together (parts_of_all c q r p (trees_of ts))) ≡ capped (part_of c q r p (combined ts))
  combined-part [] = refl
  combined-part (t ∷ []) = one-part (part_of c q r p t)
  combined-part (t ∷ (u ∷ us)) = refl

  module _ {X : Type 0} (f : X → ElementTree) where
    abbrev EachKept : X → Type 0
    EachKept x = IsKept c q r p (f x)

    used-by-all : (xs : List X) (n : ℕ) → All EachKept xs → list_any (λ (x : X). contains (f x).used n) xs ≡ some_uses c q r.0 (has p.0) (trees_of (map (λ (x : X). tree_in (f x)) xs)) n
    used-by-all [] n h = refl
    used-by-all (x ∷ xs) n h = ap₂ (λ (a b : Bool). a || b) ((All-head EachKept x xs h).used n) (used-by-all xs n (All-tail EachKept x xs h))

    within-all : (xs : List X) (n : ℕ) → All EachKept xs → list_any (λ (x : X). contains (f x).used n) xs ≡ true → n < length q.classes.clauses
    within-all [] n h e = absurd (true≢false (sym e))
    within-all (x ∷ xs) n h e =
        within-one (f x) n (list_any (λ (y : X). contains (f y).used n) xs) (contains (f x).used n) (All-head EachKept x xs h) refl (within-all xs n (All-tail EachKept x xs h)) e

    -- the clauses that the tree of some of them uses
    pub used-together : (xs : List X) (set : List ℕ) → All EachKept xs → ((n : ℕ) → contains set n ≡ nat_lt n (length q.classes.clauses) && list_any (λ (x : X). contains (f x).used n) xs) → (n : ℕ) →
        contains set n ≡ uses c q r.0 (has p.0) (combined (map (λ (x : X). tree_in (f x)) xs)) n
    used-together xs set h e n =
        e n ∙ inside n (length q.classes.clauses) (list_any (λ (x : X). contains (f x).used n) xs) (within-all xs n h) ∙ used-by-all xs n h ∙ combined-uses (map (λ (x : X). tree_in (f x)) xs) n

    parts-of-all : (xs : List X) → All EachKept xs → capped (sum (map (λ (x : X). (f x).part) xs)) ≡ capped (sum (parts_of_all c q r p (trees_of (map (λ (x : X). tree_in (f x)) xs))))
    parts-of-all [] h = refl
    parts-of-all (x ∷ xs) h =
        let us = map (λ (y : X). (f y).part) xs in
        let vs = parts_of_all c q r p (trees_of (map (λ (y : X). tree_in (f y)) xs)) in
        let e = sum-cons (f x).part us in
        let g = sum-cons (part_of c q r p (tree_in (f x))) vs in
        ap capped e ∙ capped-both (f x).part (part_of c q r p (tree_in (f x))) (sum us) (sum vs) (All-head EachKept x xs h).part (parts-of-all xs (All-tail EachKept x xs h)) ∙ sym (ap capped g)

    parts-many : (xs : List X) → length (map (λ (x : X). (f x).part) xs) ≡ length (parts_of_all c q r p (trees_of (map (λ (x : X). tree_in (f x)) xs)))
    parts-many [] = refl
    parts-many (x ∷ xs) = ap suc (parts-many xs)

    -- the parts of the tree of some of them
    pub parts-together : (xs : List X) (n : ℕ) → All EachKept xs → n ≡ capped (together (map (λ (x : X). (f x).part) xs)) → n ≡ capped (part_of c q r p (combined (map (λ (x : X). tree_in (f x)) xs)))
    parts-together xs n h e =
        e ∙ capped-child (map (λ (x : X). (f x).part) xs) (parts_of_all c q r p (trees_of (map (λ (x : X). tree_in (f x)) xs))) (parts-many xs) (parts-of-all xs h) ∙ combined-part (map (λ (x : X). tree_in (f x)) xs)

-- one element more of those that a number marks
pub named-more : (ks : List ElementTree) (i left : ℕ) (d : ElementTree) (k : ℕ) (old new whole : Bool) → i < length ks → d ≡ get_or ks i d → new ≡ old || (nat_eq (left % 2) 1 && has d.named.0 k) →
    old || named_in (marked left (drop i ks)) k ≡ whole → new || named_in (marked (left / 2) (drop (i + 1) ks)) k ≡ whole
named-more ks i left d k old new whole lt same is before =
    by (nat_eq (left % 2) 1) (subst (λ (e : ElementTree). new ≡ old || (nat_eq (left % 2) 1 && has e.named.0 k)) same is) (sym (ap (λ (es : List ElementTree). old || named_in (marked left es) k) (drop_more ks i d lt)) ∙ before)
  where
    rest : List ElementTree
    rest = marked (left / 2) (drop (i + 1) ks)

    three : (a b e : Bool) → (a || b) || e ≡ a || (b || e)
    three true b e = refl
    three false b e = refl

    by : (b : Bool) → new ≡ old || (b && has (get_or ks i d).named.0 k) → old || named_in (cond b (get_or ks i d ∷ rest) rest) k ≡ whole → new || named_in rest k ≡ whole
    by true e h = ap (λ a. a || named_in rest k) e ∙ three old (has (get_or ks i d).named.0 k) (named_in rest k) ∙ h
    by false e h = ap (λ a. a || named_in rest k) (e ∙ or-nothing old) ∙ h
      where
        or-nothing : (a : Bool) → a || false ≡ a
        or-nothing true = refl
        or-nothing false = refl

pub named-end : (ks : List ElementTree) (i left k : ℕ) (old whole : Bool) → length ks ≤ i → old || named_in (marked left (drop i ks)) k ≡ whole → old ≡ whole
named-end ks i left k old whole le h =
    sym (or-nothing old) ∙ sym (ap (λ (es : List ElementTree). old || named_in (marked left es) k) (drop_of_length-le ks le)) ∙ h
  where
    or-nothing : (a : Bool) → a || false ≡ a
    or-nothing true = refl
    or-nothing false = refl

-- what holds of all holds of those that are marked
pub all-marked : {X : Type 0} (P : X → Type 0) (n : ℕ) (xs : List X) → All P xs → All P (marked n xs)
all-marked P n [] h = h
all-marked {X} P n (x ∷ xs) h = by (nat_eq (n % 2) 1) (all-marked P (n / 2) xs (All-tail P x xs h))
  where
    by : (b : Bool) → All P (marked (n / 2) xs) → All P (cond b (x ∷ marked (n / 2) xs) (marked (n / 2) xs))
    by true rest = All-cons P x (marked (n / 2) xs) (All-head P x xs h) rest
    by false rest = rest

-- marking commutes with a map
pub marked-map : {A B : Type 0} (f : A → B) (n : ℕ) (xs : List A) → map f (marked n xs) ≡ marked n (map f xs)
marked-map f n [] = refl
marked-map f n (x ∷ xs) = by (nat_eq (n % 2) 1) (marked-map f (n / 2) xs)
  where
    by : (b : Bool) → map f (marked (n / 2) xs) ≡ marked (n / 2) (map f xs) → map f (cond b (x ∷ marked (n / 2) xs) (marked (n / 2) xs)) ≡ cond b (f x ∷ marked (n / 2) (map f xs)) (marked (n / 2) (map f xs))
    by true e = ap (λ ys. f x ∷ ys) e
    by false e = e

-- the relations that the tree of some elements names are those that they name
module _ (c : Contents) (q : Query) (r : RelNo) (p : RelSet) where
  some-named : (es : List ElementTree) (k : ℕ) → All (IsKept c q r p) es → others_named r.0 (conditions_from 0 (λ n. list_any (λ (e : ElementTree). contains e.used n) es) q.classes.clauses) k ≡ named_in es k
  some-named [] k h = ap (λ b. not (nat_eq k r.0) && b) (any-none (names_rel k) 0 q.classes.clauses) ∙ and-false (not (nat_eq k r.0))
  some-named (e ∷ es) k h =
      let ks = q.classes.clauses in
      let one = list_any (names_rel k) (conditions_from 0 (contains e.used) ks) in
      let rest = list_any (names_rel k) (conditions_from 0 (λ n. list_any (λ (x : ElementTree). contains x.used n) es) ks) in
      others-either (not (nat_eq k r.0)) one rest _ (any-either (names_rel k) (contains e.used) (λ n. list_any (λ (x : ElementTree). contains x.used n) es) 0 ks)
      ∙ ap₂ (λ (a b : Bool). a || b) (sym ((All-head (IsKept c q r p) e es h).named k)) (some-named es k (All-tail (IsKept c q r p) e es h))

  pub named-together : (n : ℕ) (es : List ElementTree) (k : ℕ) → All (IsKept c q r p) es → others_named r.0 (conditions_from 0 (uses c q r.0 (has p.0) (combined (marked n (map tree_in es)))) q.classes.clauses) k ≡ named_in (marked n es) k
  named-together n es k h =
      (λ z. others_named r.0 (conditions_from 0 (λ j. used-are j z) q.classes.clauses) k) ∙ some-named (marked n es) k (all-marked (IsKept c q r p) n es h)
    where
      used-are : (j : ℕ) → uses c q r.0 (has p.0) (combined (marked n (map tree_in es))) j ≡ list_any (λ (e : ElementTree). contains e.used j) (marked n es)
      used-are j =
          ap (λ (ts : List BitTree). uses c q r.0 (has p.0) (combined ts) j) (sym (marked-map tree_in n es))
          ∙ sym (used-by-all c q r p (λ (e : ElementTree). e) (marked n es) j (all-marked (IsKept c q r p) n es h) ∙ combined-uses c q r p (map tree_in (marked n es)) j)

pub only-within : (k n len : ℕ) → nat_eq k n ≡ true → n < len → k < len
only-within k n len e lt = grind (arith, common_steps, e, lt)

-- the AND of several
pub combined-many : (ts : List BitTree) → 2 ≤ length ts → all_hold (trees_of ts) ≡ combined ts
combined-many [] two = refl
combined-many (t ∷ []) two = absurd (omega (arith, two))
combined-many (t ∷ (u ∷ us)) two = refl

pub all-taken : {X : Type 0} (n : ℕ) (xs : List X) → length xs ≤ n → take n xs ≡ xs
all-taken n xs h = grind (arith, common_steps)

pub map-map : {A B C : Type 0} (g : B → C) (f : A → B) (xs : List A) → map (λ (x : A). g (f x)) xs ≡ map g (map f xs)
map-map g f [] = refl
map-map g f (x ∷ xs) = ap (λ ys. g (f x) ∷ ys) (map-map g f xs)

-- the trees of those that are marked
pub marked-trees : {X : Type 0} (f : X → ElementTree) (xs ys : List X) (n : ℕ) (ks ls : List ElementTree) → xs ≡ ys → map f ys ≡ marked n ks → ks ≡ ls → map (λ (x : X). tree_in (f x)) xs ≡ marked n (map tree_in ls)
marked-trees f xs ys n ks ls e h g =
    map-map tree_in f xs ∙ ap (map tree_in) (ap (map f) e ∙ h ∙ ap (marked n) g) ∙ marked-map tree_in n ls

pub marked-each : {X : Type 0} (P : ElementTree → Type 0) (f : X → ElementTree) (xs ys : List X) (n : ℕ) (ks ls : List ElementTree) → xs ≡ ys → map f ys ≡ marked n ks → ks ≡ ls → All P ls → All (λ (x : X). P (f x)) xs
marked-each P f xs ys n ks ls e h g all =
    let same = ap (map f) e ∙ h ∙ ap (marked n) g in
    all-sources f P xs (subst (All P) (sym same) (all-marked P n ls all))
