-- The relations whose rows a scan is given are named by the clauses of its parameterisation, and are relations of the query.
use Rattle.std.proofs.Common.{◌≡◌, ◌<◌, ◌+◌, ℕ, suc, Bool, true, false, not, cond, ◌&&◌, ◌||◌, nat_eq, nat_lt, List, [], ◌∷◌, length, map, take, refl, sym, ◌∙◌, ap, subst, arith, ⊎_elim}
use Rattle.std.specs.Prelude.{All, Contains, Some}
use Rattle.std.specs.List.{AllByRecursion, items_where_true, list_any}
use Rattle.std.proofs.lemmas.Bool.{and_from, and_parts, eq-eqb, eqb-true, lt-ltb, ltb-true, or_cases, or_right, true≢false, not-true}
use Rattle.std.proofs.lemmas.List.Elements.{All-contains, All-from_recursion, All-head, All-tail, All-take}
use Rattle.pg_base.specs.Sets.{has}
use Rattle.pg_base.specs.declared.numbers.IndexNo.{IndexNo}
use Rattle.pg_base.specs.declared.numbers.RelNo.{RelNo}
use Rattle.pg_base.specs.declared.rel_set.RelSet.{RelSet}
use Rattle.pg_expr.specs.Columns.{names_rel}
use Rattle.pg_expr.specs.Cond.{Cond}
use Rattle.catalog.specs.Contents.{Contents, indexes_of}
use Rattle.eq_classes.specs.Clauses.{Clause, Set, one}
use Rattle.eq_classes.specs.Listing.{clause_at}
use Rattle.eq_classes.specs.Parts.{is_base, is_param, is_local}
use Rattle.eq_classes.proofs.InsideLemmas.{column_both, names_inside}
use Rattle.eq_classes.proofs.ListLemmas.{some_same}
use Rattle.index_match.specs.Numbered.{Numbered, has_number, local}
use Rattle.index_match.proofs.FoundLemmas.{chosen_numbers, those_are}
use Rattle.index_match.proofs.PartLemmas.{conditions_local}
use Rattle.path_cost.specs.work.Columns.{IsOver, is_column_in}
use Rattle.path_cost.specs.Estimates.{conditions_from, conditions_where}
use Rattle.path_cost.proofs.KeptLemmas.{where-from}
use Rattle.sql_query.specs.Queries.{Query, width}
use Rattle.plan_tree.specs.Bitmaps.{AreElements, Element, HasArms, HaveArms, IsBitTree, IsElement, IsTreeOver, MOST_ELEMENTS, by_clause, by_index, candidates, element_of, elements_of, some_uses, table_of_relation, uses}
use Rattle.plan_tree.specs.Plans.{BitTree, leaf, all_hold, some_arm, BitTrees, no_trees, tree_and}
use Rattle.plan_tree.specs.Space.{others_named}
use Rattle.plan_tree.proofs.FrontLemmas.{contains-source}
use Rattle.bitmap_scan.proofs.ElementLemmas.{all-joined, all-mapped, all-picked, all-weaker}
use Rattle.bitmap_scan.proofs.MarkedLemmas.{chosen-is-there}

-- what the clauses of a parameterisation name, where a set has their numbers
pub named-where : (r : ℕ) (param : Set) (ks : List Clause) (given : ℕ → Bool) → ((n : ℕ) → given n ≡ nat_lt n (length ks) && is_param r param (clause_at ks n)) →
    (k : ℕ) → others_named r (conditions_from 0 given ks) k ≡ others_named r (conditions_where (is_param r param) ks) k
named-where r param ks given are k = ap (λ (es : List Cond). others_named r es k) (where-from (is_param r param) given ks 0 at)
  where
    at : (j : ℕ) → j < length ks → given (0 + j) ≡ is_param r param (clause_at ks j)
    at j lt = let same : 0 + j ≡ j = omega arith in ap given same ∙ are j ∙ ap (λ b. b && is_param r param (clause_at ks j)) (lt-ltb j (length ks) lt)

-- what passes a test among the conditions of some clauses does so among those of others that have it
more-pass : (f : Cond → Bool) (chosen other : ℕ → Bool) (n : ℕ) (ks : List Clause) →
    ((j : ℕ) → j < length ks → chosen (n + j) ≡ true → f (clause_at ks j).cond ≡ true → other (n + j) ≡ true) →
    list_any f (conditions_from n chosen ks) ≡ true → list_any f (conditions_from n other ks) ≡ true
more-pass f chosen other n [] given h = h
more-pass f chosen other n (x ∷ ks) given h =
    by (more-pass f chosen other (n + 1) ks (λ j lt a b.
    let e : n + suc j ≡ n + 1 + j = omega arith in
    subst (λ m. other m ≡ true) e (given (suc j) (omega (arith, lt)) (subst (λ m. chosen m ≡ true) (sym e) a) b)))
    (chosen n) refl (f x.cond) refl (other n) refl h
  where
    here : chosen n ≡ true → f x.cond ≡ true → other n ≡ true
    here a b =
        let e : n + 0 ≡ n = omega arith in
        subst (λ m. other m ≡ true) e (given 0 (omega arith) (subst (λ m. chosen m ≡ true) (sym e) a) b)

    onto : (d : Bool) → list_any f (conditions_from (n + 1) other ks) ≡ true → list_any f (cond d (x.cond ∷ conditions_from (n + 1) other ks) (conditions_from (n + 1) other ks)) ≡ true
    onto true g = or_right (f x.cond) (list_any f (conditions_from (n + 1) other ks)) g
    onto false g = g

    by : (list_any f (conditions_from (n + 1) chosen ks) ≡ true → list_any f (conditions_from (n + 1) other ks) ≡ true) → (a : Bool) → chosen n ≡ a → (b : Bool) → f x.cond ≡ b → (d : Bool) → other n ≡ d →
        list_any f (cond a (x.cond ∷ conditions_from (n + 1) chosen ks) (conditions_from (n + 1) chosen ks)) ≡ true →
        list_any f (cond d (x.cond ∷ conditions_from (n + 1) other ks) (conditions_from (n + 1) other ks)) ≡ true
    by later false e b g d k h = onto d (later h)
    by later true e true g true k h = ap (λ b. b || list_any f (conditions_from (n + 1) other ks)) g
    by later true e true g false k h = absurd (true≢false (sym (here e g) ∙ k))
    by later true e false g d k h = onto d (later (sym (ap (λ b. b || list_any f (conditions_from (n + 1) chosen ks)) g) ∙ h))

numbers-are : (P : ℕ → Type 0) (xs : List Numbered) → ((n : ℕ) → has_number xs n ≡ true → P n) → AllByRecursion (λ (x : Numbered). P x.number) xs
numbers-are P [] given = tt
numbers-are P (x ∷ xs) given = (
  given x.number (ap (λ b. b || has_number xs x.number) (eq-eqb x.number x.number refl)),
  numbers-are P xs (λ n h. given n (or_right (nat_eq n x.number) (has_number xs n) h)),
)

module _ (c : Contents) (q : Query) (r : RelNo) (p : RelSet) where
  -- a clause of the relation alone or of the relation and its parameterisation
  abbrev IsLocal : ℕ → Type 0
  IsLocal n = (n < length q.classes.clauses) × (is_local r.0 (has p.0) (clause_at q.classes.clauses n) ≡ true)

  listed-local : (n : ℕ) → has_number (local q.classes r.0 (has p.0)) n ≡ true → IsLocal n
  listed-local n h =
      let ks = q.classes.clauses in
      let test = λ (j : ℕ). is_local r.0 (has p.0) (clause_at ks j) in
      let chosen = λ (j : ℕ). nat_lt j (length ks) && test j in
      let same = ap (λ (cs : List Numbered). has_number cs n) (those_are q.classes (is_local r.0 (has p.0)) chosen (λ j. refl)) in
      let passes = and_parts (nat_lt n (length ks)) (chosen n) (sym (chosen_numbers chosen ks n) ∙ same ∙ h) in
      (ltb-true n (length ks) passes.0, (and_parts (nat_lt n (length ks)) (test n) passes.1).1)

  abbrev IsOfLocal : Element → Type 0
  IsOfLocal (by_index i) = Unit {0}
  IsOfLocal (by_clause n) = IsLocal n

  any-index : (xs : List IndexNo) → AllByRecursion (λ (i : IndexNo). IsOfLocal (by_index i)) xs
  any-index [] = tt
  any-index (x ∷ xs) = (tt, any-index xs)

  candidates-local : AllByRecursion IsOfLocal (candidates c q r.0 (has p.0))
  candidates-local =
      all-joined IsOfLocal (map by_index (indexes_of c (table_of_relation q r.0))) (map (λ (k : Numbered). by_clause k.number) (local q.classes r.0 (has p.0)))
      (all-mapped IsOfLocal by_index (indexes_of c (table_of_relation q r.0)) (any-index (indexes_of c (table_of_relation q r.0))))
      (all-mapped IsOfLocal (λ (k : Numbered). by_clause k.number) (local q.classes r.0 (has p.0)) (numbers-are IsLocal (local q.classes r.0 (has p.0)) listed-local))

  first-local : (es : List Element) → AreElements c q r.0 (has p.0) es → (e : Element) → Contains (take MOST_ELEMENTS es) e → IsOfLocal e
  first-local es are e there =
      let both = all-picked (IsElement c q r.0 (has p.0)) IsOfLocal (candidates c q r.0 (has p.0)) es are candidates-local in
      let each = All-from_recursion IsOfLocal es (all-weaker (λ (x : Element). IsOfLocal x × IsElement c q r.0 (has p.0) x) IsOfLocal (λ x h. h.0) es both) in
      All-contains IsOfLocal (take MOST_ELEMENTS es) e (All-take IsOfLocal MOST_ELEMENTS es each) there

  used-one : (b : BitTree) (n : ℕ) → HasArms c q r.0 (has p.0) b → ((e : Element) → element_of c q r.0 (has p.0) b ≡ Some e → IsOfLocal e) → uses c q r.0 (has p.0) b n ≡ true → IsLocal n
  used-one (leaf i) n arms of h = conditions_local c q.classes i r.0 (has p.0) n h
  used-one (all_hold bs) n arms of h = absurd arms
  used-one (some_arm m is) n arms of h = subst IsLocal (sym (eqb-true n m h)) (of (by_clause m) refl)

  used-some : (bs : BitTrees) (n : ℕ) → HaveArms c q r.0 (has p.0) bs → ((e : Element) → Contains (elements_of c q r.0 (has p.0) bs) (Some e) → IsOfLocal e) → some_uses c q r.0 (has p.0) bs n ≡ true → IsLocal n
  used-some no_trees n arms of h = absurd (true≢false (sym h))
  used-some (tree_and b bs) n arms of h = ⊎_elim
      (λ (u : uses c q r.0 (has p.0) b n ≡ true). used-one b n arms.0 (λ e g. of e (0, omega arith, g)) u)
      (λ (u : some_uses c q r.0 (has p.0) bs n ≡ true). used-some bs n arms.1 (λ e g. of e (suc g.0, omega (arith, g.1), g.2)) u)
      (or_cases (uses c q r.0 (has p.0) b n) (some_uses c q r.0 (has p.0) bs n) h)

  -- the clauses that a bitmap tree uses
  pub used-local : (bits : BitTree) → IsBitTree c q r.0 (has p.0) bits → (n : ℕ) → uses c q r.0 (has p.0) bits n ≡ true → IsLocal n
  used-local bits tree n h = by bits tree.over h
    where
      first : (e : Element) → Contains (take MOST_ELEMENTS tree.elements) e → IsOfLocal e
      first = first-local tree.elements tree.are

      by : (b : BitTree) → IsTreeOver c q r.0 (has p.0) (take MOST_ELEMENTS tree.elements) b → uses c q r.0 (has p.0) b n ≡ true → IsLocal n
      by (leaf i) over u = conditions_local c q.classes i r.0 (has p.0) n u
      by (some_arm m is) over u = subst IsLocal (sym (eqb-true n m u)) (first (by_clause m) over.0)
      by (all_hold bs) over u = used-some bs n over.3 (λ e there.
          let some = items_where_true over.0 (take MOST_ELEMENTS tree.elements) in
          let found = contains-source Some some (Some e) (subst (λ xs. Contains xs (Some e)) over.1 there) in
          first e (chosen-is-there e over.0 (take MOST_ELEMENTS tree.elements) (subst (Contains some) (some_same found.0 e found.2) found.1))) u

  -- what such clauses name beside the relation, those of the parameterisation name
  pub named-given : (chosen given : ℕ → Bool) → ((n : ℕ) → given n ≡ nat_lt n (length q.classes.clauses) && is_param r.0 (has p.0) (clause_at q.classes.clauses n)) → ((n : ℕ) → chosen n ≡ true → IsLocal n) →
      (k : ℕ) → others_named r.0 (conditions_from 0 chosen q.classes.clauses) k ≡ true → others_named r.0 (conditions_from 0 given q.classes.clauses) k ≡ true
  named-given chosen given are local k h =
      let ks = q.classes.clauses in
      let parts = and_parts (not (nat_eq k r.0)) (list_any (names_rel k) (conditions_from 0 chosen ks)) h in
      and_from (not (nat_eq k r.0)) (list_any (names_rel k) (conditions_from 0 given ks)) parts.0
      (more-pass (names_rel k) chosen given 0 ks (λ j lt is names. passed parts.0 j (subst (λ m. chosen m ≡ true) (plus j) is) lt names) parts.1)
    where
      plus : (j : ℕ) → 0 + j ≡ j
      plus j = omega arith

      passed : not (nat_eq k r.0) ≡ true → (j : ℕ) → chosen j ≡ true → j < length q.classes.clauses → names_rel k (clause_at q.classes.clauses j).cond ≡ true → given (0 + j) ≡ true
      passed other j is lt names =
          let x = clause_at q.classes.clauses j in
          subst (λ m. given m ≡ true) (sym (plus j)) (⊎_elim
          (λ (own : is_base r.0 x ≡ true). absurd (true≢false (sym own ∙ names_inside (one r.0) k x.cond (not-true (nat_eq k r.0) other) names)))
          (λ (both : is_param r.0 (has p.0) x ≡ true). are j ∙ and_from (nat_lt j (length q.classes.clauses)) (is_param r.0 (has p.0) x) (lt-ltb j (length q.classes.clauses) lt) both)
          (or_cases (is_base r.0 x) (is_param r.0 (has p.0) x) (local j is).1))
