-- What bitmap scans give: a bitmap holds each row at which the clauses of its scan hold.
use Rattle.std.proofs.Common.{◌≡◌, ℕ, suc, ◌+◌, ◌<◌, Bool, true, false, cond, ◌||◌, List, [], ◌∷◌, map, filter, refl, sym, ap, ◌∙◌, subst, arith, ⊎_elim}
use Rattle.std.specs.Prelude.{nat_eq, length, slice_index_or, take, Option, Some, slice_get}
use Rattle.std.specs.List.{AllByRecursion, AllZip, list_all, list_any, enumerate_from, items_where_true}
use Rattle.std.proofs.lemmas.Bool.{or_cases, or_right, and_parts, and_from, true≢false, eq-eqb, eqb-true}
use Rattle.pg_base.specs.Sets.{has}
use Rattle.pg_base.specs.declared.numbers.RelNo.{RelNo}
use Rattle.pg_base.specs.declared.numbers.IndexNo.{IndexNo}
use Rattle.pg_base.specs.declared.rel_set.RelSet.{RelSet}
use Rattle.pg_value.specs.declared.operators.Truth.{Truth}
use Rattle.pg_value.specs.declared.operators.Truth.TheVariants.{True, False, Unknown}
use Rattle.pg_value.specs.Truths.{is_true, both, either}
use Rattle.pg_value.specs.declared.value.Value.{Value}
use Rattle.pg_expr.specs.declared.operand.ColRef.{ColRef}
use Rattle.pg_expr.specs.Cond.{Cond, compare, is_null, is_not_null, bool_col, const, all_of, any_of, negation, Conds, no_conds, cond_and}
use Rattle.pg_expr.specs.Truths.{truth_at, truth_of_all, truth_of_any}
use Rattle.eq_classes.specs.Clauses.{Clause}
use Rattle.pg_base.specs.declared.numbers.TableNo.{TableNo}
use Rattle.catalog.specs.Contents.{Contents, NamedIndex, IsIndex, index_at, indexes_of, no_index, numbers_from}
use Rattle.sql_query.specs.Queries.{Query, width}
use Rattle.plan_tree.specs.index_match_Numbered.{Numbered, numbered, conditions_of, local}
use Rattle.eq_classes.specs.Classes.{listed}
use Rattle.plan_tree.specs.index_match_Arms.{arms_of, arm_parts}
use Rattle.plan_tree.specs.index_match_Usable.{IsUsable}
use Rattle.plan_tree.specs.Plans.{BitTree, leaf, all_hold, some_arm, BitTrees, no_trees, tree_and}
use Rattle.plan_tree.specs.Bitmaps.{MOST_ELEMENTS, table_of_relation, ArePicked, none_left, picked, passed, Element, by_index, by_clause, IsIndexOn, MatchesArm, is_or, condition_by, condition_at, IsElement, candidates, AreElements, element_of, elements_of, HasArms, HaveArms, IsBitTree}
use Rattle.sql_query.specs.Worlds.{World, IsWorld}
use Rattle.sql_query.specs.Tuples.{Tuple, beside, value_at, row_numbers}
use Rattle.sql_query.specs.Meaning.{all_true}
use Rattle.plan_tree.specs.Entries.{entry_rows}
use Rattle.plan_tree.specs.Run.{at_which, index_scan_conditions, clauses_at, arm_holds, some_holds, holds, all_hold_row, held}
use Rattle.plan_laws.proofs.PermLemmas.{Perm, none, keep, turn, join}
use Rattle.plan_laws.specs.work.Meant.{holds_at, tested, meant_rows}
use Rattle.plan_laws.proofs.EachLemmas.{each_contained, each_joined, each_mapped, each_masked, each_taken, each_weaker}
use Rattle.plan_laws.proofs.FilterLemmas.{filter_follows, filter_alike}
use Rattle.plan_laws.proofs.PredicateLemmas.{predicates_follow}
use Rattle.plan_laws.proofs.ScanLemmas.{meets_at, entries_are, clauses_hold, base_of_tested, conditions_hold}

-- elements of lists of numbers
list_any_Perm : (p : ℕ → Bool) (xs ys : List ℕ) → Perm xs ys → list_any p xs ≡ list_any p ys
list_any_Perm p _ _ none = refl
list_any_Perm p _ _ (keep x xs ys h) = ap (λ (v : Bool). p x || v) (list_any_Perm p xs ys h)
list_any_Perm p _ _ (turn x y xs) = swap (p x) (p y) (list_any p xs)
  where
    swap : (a b c : Bool) → a || (b || c) ≡ b || (a || c)
    swap true true c = refl
    swap true false c = refl
    swap false true c = refl
    swap false false c = refl
list_any_Perm p _ _ (join xs ys zs g h) = list_any_Perm p xs ys g ∙ list_any_Perm p ys zs h

is_in_filter : (row : ℕ) (p : ℕ → Bool) (xs : List ℕ) → p row ≡ true → list_any (nat_eq row) xs ≡ true → list_any (nat_eq row) (filter p xs) ≡ true
is_in_filter row p [] passes h = h
is_in_filter row p (x ∷ xs) passes h = by (is_in_filter row p xs passes) (nat_eq row x) (p x) refl refl h
  where
    by : (list_any (nat_eq row) xs ≡ true → list_any (nat_eq row) (filter p xs) ≡ true) → (e v : Bool) → nat_eq row x ≡ e → p x ≡ v → nat_eq row x || list_any (nat_eq row) xs ≡ true → list_any (nat_eq row) (cond (p x) (x ∷ filter p xs) (filter p xs)) ≡ true
    by later true true a b h = rw (b, a) refl
    by later true false a b h = absurd (true≢false (sym passes ∙ ap p (eqb-true row x a) ∙ b))
    by later false true a b h = rw b (or_right (nat_eq row x) (list_any (nat_eq row) (filter p xs)) (later (ap (λ (v : Bool). v || list_any (nat_eq row) xs) (sym a) ∙ h)))
    by later false false a b h = rw b (later (ap (λ (v : Bool). v || list_any (nat_eq row) xs) (sym a) ∙ h))

each_own : (xs : List ℕ) → AllByRecursion (λ x. list_any (nat_eq x) xs ≡ true) xs
each_own xs = go xs (λ x h. h)
  where
    go : (ys : List ℕ) → ((x : ℕ) → list_any (nat_eq x) ys ≡ true → list_any (nat_eq x) xs ≡ true) → AllByRecursion (λ x. list_any (nat_eq x) xs ≡ true) ys
    go [] f = tt
    go (y ∷ ys) f = (f y (ap (λ (v : Bool). v || list_any (nat_eq y) ys) (eq-eqb y y refl)), go ys (λ x h. f x (or_right (nat_eq x y) (list_any (nat_eq x) ys) h)))

-- elements that are picked
picked_each : {X : Type 0} (P Q R : X → Type 0) → ((x : X) → P x → Q x → R x) → (xs ys : List X) → ArePicked P xs ys → AllByRecursion Q xs → AllByRecursion R ys
picked_each P Q R f _ _ none_left h = tt
picked_each P Q R f _ _ (picked x xs ys p more) h = (f x p h.0, picked_each P Q R f xs ys more h.1)
picked_each P Q R f _ _ (passed x xs ys p more) h = picked_each P Q R f xs ys more h.1

-- truth of lists of conditions
both_parts : (s t : Truth) → is_true (both s t) ≡ true → (is_true s ≡ true) × (is_true t ≡ true)
both_parts True True h = (refl, refl)
both_parts True False h = absurd (true≢false (sym h))
both_parts True Unknown h = absurd (true≢false (sym h))
both_parts False True h = absurd (true≢false (sym h))
both_parts False False h = absurd (true≢false (sym h))
both_parts False Unknown h = absurd (true≢false (sym h))
both_parts Unknown True h = absurd (true≢false (sym h))
both_parts Unknown False h = absurd (true≢false (sym h))
both_parts Unknown Unknown h = absurd (true≢false (sym h))

either_part : (s t : Truth) → is_true (either s t) ≡ true → is_true s || is_true t ≡ true
either_part True t h = refl
either_part False True h = refl
either_part False False h = h
either_part False Unknown h = h
either_part Unknown True h = refl
either_part Unknown False h = h
either_part Unknown Unknown h = h

all_parts : (b : ColRef → Value) (es : Conds) → is_true (truth_of_all b es) ≡ true → list_all (λ e. is_true (truth_at b e)) (listed es) ≡ true
all_parts b no_conds h = refl
all_parts b (cond_and e es) h =
    let parts : (is_true (truth_at b e) ≡ true) × (is_true (truth_of_all b es) ≡ true) = both_parts (truth_at b e) (truth_of_all b es) h in
    and_from (is_true (truth_at b e)) (list_all (λ x. is_true (truth_at b x)) (listed es)) parts.0 (all_parts b es parts.1)

-- the parts of an arm that is True are
arm_parts_hold : (b : ColRef → Value) (e : Cond) → is_true (truth_at b e) ≡ true → list_all (λ x. is_true (truth_at b x)) (arm_parts e) ≡ true
arm_parts_hold b (all_of es) h = all_parts b es h
arm_parts_hold b (compare op x y) h = and_from (is_true (truth_at b (compare op x y))) true h refl
arm_parts_hold b (is_null x) h = and_from (is_true (truth_at b (is_null x))) true h refl
arm_parts_hold b (is_not_null x) h = and_from (is_true (truth_at b (is_not_null x))) true h refl
arm_parts_hold b (bool_col x) h = and_from (is_true (truth_at b (bool_col x))) true h refl
arm_parts_hold b (const t) h = and_from (is_true (truth_at b (const t))) true h refl
arm_parts_hold b (any_of es) h = and_from (is_true (truth_at b (any_of es))) true h refl
arm_parts_hold b (negation e) h = and_from (is_true (truth_at b (negation e))) true h refl

-- the condition of a clause, by its number, where the conditions of a list of clauses are True
abbrev passing : (Clause → Bool) → List (ℕ × Clause) → List Numbered
passing test ps = map (λ (p : ℕ × Clause). numbered (p.0, p.1.cond)) (filter (λ (p : ℕ × Clause). test p.1) ps)

conditions_by_number : (b : ColRef → Value) (test : Clause → Bool) (all : List Clause) (n : ℕ) (ks : List Clause)
    → ((j : ℕ) → slice_get all (n + j) ≡ slice_get ks j)
    → list_all (λ e. is_true (truth_at b e)) (conditions_of (passing test (enumerate_from n ks))) ≡ true
    → AllByRecursion (λ (k : Numbered). is_true (truth_at b (condition_by (slice_get all k.number))) ≡ true) (passing test (enumerate_from n ks))
conditions_by_number b test all n [] at h = tt
conditions_by_number b test all n (k ∷ ks) at h =
    by (conditions_by_number b test all (n + 1) ks (λ j. (let e : n + 1 + j ≡ n + suc j = omega arith in ap (slice_get all) e) ∙ at (suc j))) (test k) h
  where
    here : slice_get all n ≡ Some k
    here = (let e : n ≡ n + 0 = omega arith in ap (slice_get all) e) ∙ at 0

    by : (list_all (λ e. is_true (truth_at b e)) (conditions_of (passing test (enumerate_from (n + 1) ks))) ≡ true → AllByRecursion (λ (c : Numbered). is_true (truth_at b (condition_by (slice_get all c.number))) ≡ true) (passing test (enumerate_from (n + 1) ks)))
        → (v : Bool)
        → list_all (λ e. is_true (truth_at b e)) (conditions_of (map (λ (p : ℕ × Clause). numbered (p.0, p.1.cond)) (cond v ((n, k) ∷ filter (λ (p : ℕ × Clause). test p.1) (enumerate_from (n + 1) ks)) (filter (λ (p : ℕ × Clause). test p.1) (enumerate_from (n + 1) ks))))) ≡ true
        → AllByRecursion (λ (c : Numbered). is_true (truth_at b (condition_by (slice_get all c.number))) ≡ true) (map (λ (p : ℕ × Clause). numbered (p.0, p.1.cond)) (cond v ((n, k) ∷ filter (λ (p : ℕ × Clause). test p.1) (enumerate_from (n + 1) ks)) (filter (λ (p : ℕ × Clause). test p.1) (enumerate_from (n + 1) ks))))
    by later true h =
        let rest = list_all (λ e. is_true (truth_at b e)) (conditions_of (passing test (enumerate_from (n + 1) ks))) in
        let parts : (is_true (truth_at b k.cond) ≡ true) × (rest ≡ true) = and_parts (is_true (truth_at b k.cond)) rest h in
        (ap (λ (o : Option Clause). is_true (truth_at b (condition_by o))) here ∙ parts.0, later parts.1)
    by later false h = later h

abbrev table_no : ℕ → TableNo
table_no n = record { 0 = n }

-- the indexes of a table are those of it
numbers_are : (c : Contents) (t : TableNo) (n : ℕ) (xs : List NamedIndex) → ((k : ℕ) → slice_index_or c.indexes (n + k) no_index ≡ slice_index_or xs k no_index) → n + length xs ≡ length c.indexes
    → AllByRecursion (λ (i : IndexNo). IsIndex c i × ((index_at c i).table ≡ t)) (numbers_from n xs t)
numbers_are c t n [] at few = tt
numbers_are c t n (x ∷ xs) at few = by (numbers_are c t (n + 1) xs (λ k. (let e : n + 1 + k ≡ n + suc k = omega arith in ap (λ (j : ℕ). slice_index_or c.indexes j no_index) e) ∙ at (suc k)) (omega (arith, few))) (nat_eq x.index.table.0 t.0) refl
  where
    here : slice_index_or c.indexes n no_index ≡ x
    here = (let e : n ≡ n + 0 = omega arith in ap (λ (j : ℕ). slice_index_or c.indexes j no_index) e) ∙ at 0

    by : AllByRecursion (λ (i : IndexNo). IsIndex c i × ((index_at c i).table ≡ t)) (numbers_from (n + 1) xs t) → (v : Bool) → nat_eq x.index.table.0 t.0 ≡ v
        → AllByRecursion (λ (i : IndexNo). IsIndex c i × ((index_at c i).table ≡ t)) (cond v (record { 0 = n } ∷ numbers_from (n + 1) xs t) (numbers_from (n + 1) xs t))
    by later true e = ((omega (arith, few), ap (λ (d : NamedIndex). d.index.table) here ∙ ap table_no (eqb-true x.index.table.0 t.0 e)), later)
    by later false e = later

indexes_are : (c : Contents) (q : Query) (r : ℕ) → AllByRecursion (λ i. IsIndexOn c q r i) (indexes_of c (table_of_relation q r))
indexes_are c q r =
    each_weaker (λ (i : IndexNo). IsIndex c i × ((index_at c i).table ≡ table_of_relation q r)) (λ i. IsIndexOn c q r i) (λ i h. record { made = h.0; table = h.1 }) (indexes_of c (table_of_relation q r))
    (numbers_are c (table_of_relation q r) 0 c.indexes (λ k. let e : 0 + k ≡ k = omega arith in ap (λ (j : ℕ). slice_index_or c.indexes j no_index) e) (omega arith))

module _ (w : World) (q : Query) (world : IsWorld w) (r : RelNo) (p : RelSet) (o : Tuple) (lt : r.0 < width q) (row : ℕ) (stands : list_any (nat_eq row) (row_numbers w q r) ≡ true) (passes : all_true w q (beside q r.0 row o) (clauses_at w q r p) ≡ true) where
  -- a usable index has an entry of the row
  has_entry : (i : IndexNo) → IsIndexOn w.contents q r.0 i → IsUsable w.contents q.classes i r.0 → list_any (nat_eq row) (entry_rows w i) ≡ true
  has_entry i is usable =
      list_any_Perm (nat_eq row) (entry_rows w i) (filter (meets_at w q r i) (row_numbers w q r)) (entries_are w q r i is)
      ∙ is_in_filter row (meets_at w q r i) (row_numbers w q r)
      (predicates_follow w q world r i lt is usable row o (base_of_tested w q r.0 (has p.0) (beside q r.0 row o) (sym (clauses_hold w q r p o row) ∙ passes)))
      stands

  leaf_holds : (i : IndexNo) → IsIndexOn w.contents q r.0 i → IsUsable w.contents q.classes i r.0 → holds w q r p o row (leaf i) ≡ true
  leaf_holds i is usable =
      is_in_filter row (λ n. all_true w q (beside q r.0 n o) (index_scan_conditions w q r i p)) (entry_rows w i) (conditions_hold w q r i p (beside q r.0 row o) passes) (has_entry i is usable)

  arm_is_held : (arm : Cond) (i : IndexNo) → MatchesArm w.contents q r.0 arm i → is_true (truth_at (value_at w q (beside q r.0 row o)) arm) ≡ true → arm_holds w q r o row arm i ≡ true
  arm_is_held arm i matches h =
      is_in_filter row (λ n. all_true w q (beside q r.0 n o) (arm_parts arm)) (entry_rows w i) (arm_parts_hold (value_at w q (beside q r.0 row o)) arm h) (has_entry i matches.index matches.usable)

  arms_hold : (es : Conds) (is : List IndexNo) → AllZip (MatchesArm w.contents q r.0) (listed es) is → is_true (truth_of_any (value_at w q (beside q r.0 row o)) es) ≡ true → some_holds w q r o row (listed es) is ≡ true
  arms_hold no_conds is zip h = absurd (true≢false (sym h))
  arms_hold (cond_and e es) [] zip h = absurd zip
  arms_hold (cond_and e es) (i ∷ is) zip h =
      let b = value_at w q (beside q r.0 row o) in
      ⊎_elim
      (λ (here : is_true (truth_at b e) ≡ true). ap (λ (v : Bool). v || some_holds w q r o row (listed es) is) (arm_is_held e i zip.0 here))
      (λ (later : is_true (truth_of_any b es) ≡ true). or_right (arm_holds w q r o row e i) (some_holds w q r o row (listed es) is) (arms_hold es is zip.1 later))
      (or_cases (is_true (truth_at b e)) (is_true (truth_of_any b es)) (either_part (truth_at b e) (truth_of_any b es) h))

  or_holds : (e : Cond) (is : List IndexNo) → is_or e ≡ true → AllZip (MatchesArm w.contents q r.0) (arms_of e) is → is_true (truth_at (value_at w q (beside q r.0 row o)) e) ≡ true → some_holds w q r o row (arms_of e) is ≡ true
  or_holds (any_of es) is or zip h = arms_hold es is zip h
  or_holds (all_of es) is or zip h = absurd (true≢false (sym or))
  or_holds (compare op x y) is or zip h = absurd (true≢false (sym or))
  or_holds (is_null x) is or zip h = absurd (true≢false (sym or))
  or_holds (is_not_null x) is or zip h = absurd (true≢false (sym or))
  or_holds (bool_col x) is or zip h = absurd (true≢false (sym or))
  or_holds (const t) is or zip h = absurd (true≢false (sym or))
  or_holds (negation e) is or zip h = absurd (true≢false (sym or))

  -- what the row makes of an element
  abbrev Serves : Element → Type 0
  Serves (by_index i) = (IsIndexOn w.contents q r.0 i) × IsUsable w.contents q.classes i r.0
  Serves (by_clause n) = (is_or (condition_at q n) ≡ true) × (is_true (truth_at (value_at w q (beside q r.0 row o)) (condition_at q n)) ≡ true)

  -- of a candidate alone
  abbrev Stands : Element → Type 0
  Stands (by_index i) = IsIndexOn w.contents q r.0 i
  Stands (by_clause n) = is_true (truth_at (value_at w q (beside q r.0 row o)) (condition_at q n)) ≡ true

  candidates_stand : AllByRecursion Stands (candidates w.contents q r.0 (has p.0))
  candidates_stand = each_joined Stands (map by_index (indexes_of w.contents (table_of_relation q r.0))) (map (λ (k : Numbered). by_clause k.number) (local q.classes r.0 (has p.0)))
      (each_mapped (λ i. IsIndexOn w.contents q r.0 i) Stands by_index (λ i h. h) (indexes_of w.contents (table_of_relation q r.0)) (indexes_are w.contents q r.0))
      (each_mapped (λ (k : Numbered). is_true (truth_at (value_at w q (beside q r.0 row o)) (condition_by (slice_get q.classes.clauses k.number))) ≡ true) Stands (λ (k : Numbered). by_clause k.number) (λ k h. h) (local q.classes r.0 (has p.0))
      (conditions_by_number (value_at w q (beside q r.0 row o)) (tested w q r.0 (has p.0)) q.classes.clauses 0 q.classes.clauses (λ j. let e : 0 + j ≡ j = omega arith in ap (slice_get q.classes.clauses) e) passes))

  element_serves : (e : Element) → IsElement w.contents q r.0 (has p.0) e → Stands e → Serves e
  element_serves (by_index i) is stands = (stands, is.0)
  element_serves (by_clause n) is stands = (is.is_an_or, stands)

  elements_serve : (es : List Element) → AreElements w.contents q r.0 (has p.0) es → AllByRecursion Serves es
  elements_serve es are = picked_each (IsElement w.contents q r.0 (has p.0)) Stands Serves element_serves (candidates w.contents q r.0 (has p.0)) es are candidates_stand

  one_holds : (b : BitTree) (e : Element) → element_of w.contents q r.0 (has p.0) b ≡ Some e → Serves e → HasArms w.contents q r.0 (has p.0) b → holds w q r p o row b ≡ true
  one_holds (leaf i) e is serves arms =
      let same : by_index i ≡ e = cc in
      let at : Serves (by_index i) = subst Serves (sym same) serves in
      leaf_holds i at.0 at.1
  one_holds (some_arm n is) e same' serves arms =
      let same : by_clause n ≡ e = cc in
      let at : Serves (by_clause n) = subst Serves (sym same) serves in
      or_holds (condition_at q n) is at.0 arms at.1
  one_holds (all_hold bs) e is serves arms = absurd arms

  all_of_them_hold : (bs : BitTrees) (es : List Element) → elements_of w.contents q r.0 (has p.0) bs ≡ map Some es → AllByRecursion Serves es → HaveArms w.contents q r.0 (has p.0) bs → all_hold_row w q r p o row bs ≡ true
  all_of_them_hold no_trees es same serves arms = refl
  all_of_them_hold (tree_and b bs) [] same serves arms = absurd (no_more same)
    where
      no_more : element_of w.contents q r.0 (has p.0) b ∷ elements_of w.contents q r.0 (has p.0) bs ≡ [] → ⊥
      no_more e = cc
  all_of_them_hold (tree_and b bs) (e ∷ es) same serves arms =
      let first : element_of w.contents q r.0 (has p.0) b ≡ Some e = cc in
      let rest : elements_of w.contents q r.0 (has p.0) bs ≡ map Some es = cc in
      and_from (holds w q r p o row b) (all_hold_row w q r p o row bs) (one_holds b e first serves.0 arms.0) (all_of_them_hold bs es rest serves.1 arms.1)

  tree_holds : (bits : BitTree) → IsBitTree w.contents q r.0 (has p.0) bits → holds w q r p o row bits ≡ true
  tree_holds (leaf i) is =
      one_holds (leaf i) (by_index i) refl (each_contained Serves (take MOST_ELEMENTS is.elements) (by_index i) (each_taken Serves MOST_ELEMENTS is.elements (elements_serve is.elements is.are)) is.over) tt
  tree_holds (some_arm n js) is =
      one_holds (some_arm n js) (by_clause n) refl (each_contained Serves (take MOST_ELEMENTS is.elements) (by_clause n) (each_taken Serves MOST_ELEMENTS is.elements (elements_serve is.elements is.are)) is.over.0) is.over.1
  tree_holds (all_hold bs) is =
      all_of_them_hold bs (items_where_true is.over.0 (take MOST_ELEMENTS is.elements)) is.over.1 (each_masked Serves is.over.0 (take MOST_ELEMENTS is.elements) (each_taken Serves MOST_ELEMENTS is.elements (elements_serve is.elements is.are))) is.over.3

-- the rows of a bitmap scan are those at which its clauses hold
pub bitmap_means : (w : World) (q : Query) → IsWorld w → (r : RelNo) (p : RelSet) (bits : BitTree) (o : Tuple) → r.0 < width q → IsBitTree w.contents q r.0 (has p.0) bits
    → at_which w q r o (clauses_at w q r p) (held w q r p bits o) ≡ meant_rows w q r.0 (has p.0) o
bitmap_means w q world r p bits o lt is =
    let rows = row_numbers w q r in
    let clause = λ (row : ℕ). all_true w q (beside q r.0 row o) (clauses_at w q r p) in
    filter_follows clause (λ row. holds w q r p o row bits) rows
    (each_weaker (λ row. list_any (nat_eq row) rows ≡ true) (λ row. clause row ≡ true → holds w q r p o row bits ≡ true) (λ row stands passes. tree_holds w q world r p o lt row stands passes bits is) rows (each_own rows))
    ∙ filter_alike clause (λ row. holds_at w q (beside q r.0 row o) (tested w q r.0 (has p.0))) rows (clauses_hold w q r p o)
