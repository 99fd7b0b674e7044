-- Which rows a scan by an index may be given, and what is left out where there is none.
use Rattle.std.proofs.Common.{◌≡◌, ◌<◌, ◌↔◌, ◌+◌, ℕ, suc, Bool, true, false, not, cond, ◌&&◌, ◌||◌, nat_eq, nat_lt, List, [], ◌∷◌, ◌++◌, length, map, filter, take, get_or, IsTrue, ⊎_elim, refl, sym, ◌∙◌, ap, subst, arith}
use Rattle.std.specs.Prelude.{All}
use Rattle.std.specs.List.{enumerate_from, list_any}
use Rattle.std.proofs.lemmas.Bool.{and_from, and_parts, lt-ltb, or_cases, or_right, true≢false}
use Rattle.std.proofs.lemmas.List.{take_more, map-append}
use Rattle.std.proofs.lemmas.List.Elements.{All-cons, All-head, All-nil, All-push, All-tail}
use Rattle.pg_base.specs.Sets.{has}
use Rattle.pg_base.specs.declared.numbers.IndexNo.{IndexNo}
use Rattle.pg_base.specs.declared.numbers.RelNo.{RelNo}
use Rattle.pg_base.specs.declared.rel_set.RelSet.{RelSet}
use Rattle.catalog.specs.Contents.{Contents, index_at}
use Rattle.opfamily.specs.declared.classes.Method.{Method}
use Rattle.opfamily.specs.declared.classes.Method.TheVariants.{Btree, Hash}
use Rattle.pg_expr.specs.Columns.{names_rel}
use Rattle.pg_expr.specs.Cond.{Cond}
use Rattle.eq_classes.specs.Clauses.{Clause}
use Rattle.eq_classes.specs.Listing.{clause_at}
use Rattle.eq_classes.specs.Parts.{is_base, is_param}
use Rattle.index_match.specs.Conditions.{allowed, index_conditions, is_condition}
use Rattle.index_match.specs.Numbered.{Numbered, conditions_of, numbered}
use Rattle.path_cost.specs.Estimates.{conditions_from}
use Rattle.sql_query.specs.Queries.{Query}
use Rattle.plan_tree.specs.work.Paths.{Path}
use Rattle.plan_tree.specs.Space.{IsIndexScan, others_named}
use Rattle.scan_paths.specs.work.Reached.{AreReachedBy, IsReach, IsReached}
use Rattle.scan_paths.specs.work.Scans.{IsIndexServed}
use Rattle.scan_paths.specs.declared.reached.Reached.{Reached}
use Rattle.scan_paths.proofs.SpaceLemmas.{forward-built}
use Rattle.pg_base.proofs.ListLemmas.{any-take as any-first}

any-allowed : (f : Numbered → Bool) (m : Method) (cs : List Numbered) → list_any f (allowed m cs) ≡ true → list_any f cs ≡ true
any-allowed f Btree cs h = h
any-allowed f Hash cs h = any-first f cs h

any-mapped : (f : Cond → Bool) (cs : List Numbered) → list_any f (conditions_of cs) ≡ list_any (λ (x : Numbered). f x.cond) cs
any-mapped f [] = refl
any-mapped f (x ∷ xs) = ap (λ b. f x.cond || b) (any-mapped f xs)

-- the clauses that pass one test, of which the conditions that pass another
abbrev passing : (Clause → Bool) → (Cond → Bool) → ℕ → List Clause → List Numbered
passing test pass n ks = filter (λ (x : Numbered). pass x.cond) (map (λ (p : ℕ × Clause). numbered (p.0, p.1.cond)) (filter (λ (p : ℕ × Clause). test p.1) (enumerate_from n ks)))

-- what some of them passes, some condition of a set does that has the numbers of all that pass the second test
among-all : (f : Cond → Bool) (test : Clause → Bool) (pass : Cond → Bool) (chosen : ℕ → Bool) (n : ℕ) (ks : List Clause) →
    ((j : ℕ) → j < length ks → pass (clause_at ks j).cond ≡ true → chosen (n + j) ≡ true) →
    list_any (λ (x : Numbered). f x.cond) (passing test pass n ks) ≡ true → list_any f (conditions_from n chosen ks) ≡ true
among-all f test pass chosen n [] given h = h
among-all f test pass chosen n (k ∷ ks) given h =
    by (among-all f test pass chosen (n + 1) ks (λ j lt is. let e : n + 1 + j ≡ n + suc j = omega arith in ap chosen e ∙ given (suc j) (omega (arith, lt)) is)) (test k) (pass k.cond) refl h
  where
    onto : (d : Bool) → list_any f (conditions_from (n + 1) chosen ks) ≡ true → list_any f (cond d (k.cond ∷ conditions_from (n + 1) chosen ks) (conditions_from (n + 1) chosen ks)) ≡ true
    onto true e = or_right (f k.cond) (list_any f (conditions_from (n + 1) chosen ks)) e
    onto false e = e

    here : pass k.cond ≡ true → f k.cond ≡ true → (d : Bool) → chosen n ≡ d → list_any f (cond d (k.cond ∷ conditions_from (n + 1) chosen ks) (conditions_from (n + 1) chosen ks)) ≡ true
    here is e true at = ap (λ b. b || list_any f (conditions_from (n + 1) chosen ks)) e
    here is e false at = let same : n ≡ n + 0 = omega arith in absurd (true≢false (sym (ap chosen same ∙ given 0 (omega arith) is) ∙ at))

    by : (list_any (λ (x : Numbered). f x.cond) (passing test pass (n + 1) ks) ≡ true → list_any f (conditions_from (n + 1) chosen ks) ≡ true) → (a b : Bool) → pass k.cond ≡ b →
        list_any (λ (x : Numbered). f x.cond) (filter (λ (x : Numbered). pass x.cond) (map (λ (p : ℕ × Clause). numbered (p.0, p.1.cond)) (cond a ((n, k) ∷ filter (λ (p : ℕ × Clause). test p.1) (enumerate_from (n + 1) ks)) (filter (λ (p : ℕ × Clause). test p.1) (enumerate_from (n + 1) ks))))) ≡ true →
        list_any f (cond (chosen n) (k.cond ∷ conditions_from (n + 1) chosen ks) (conditions_from (n + 1) chosen ks)) ≡ true
    by later false b is e = onto (chosen n) (later e)
    by later true b is e = passed later b is (subst (λ d. list_any (λ (x : Numbered). f x.cond) (cond d (numbered (n, k.cond) ∷ passing test pass (n + 1) ks) (passing test pass (n + 1) ks)) ≡ true) is e)
      where
        passed : (list_any (λ (x : Numbered). f x.cond) (passing test pass (n + 1) ks) ≡ true → list_any f (conditions_from (n + 1) chosen ks) ≡ true) → (b : Bool) → pass k.cond ≡ b →
            list_any (λ (x : Numbered). f x.cond) (cond b (numbered (n, k.cond) ∷ passing test pass (n + 1) ks) (passing test pass (n + 1) ks)) ≡ true →
            list_any f (cond (chosen n) (k.cond ∷ conditions_from (n + 1) chosen ks) (conditions_from (n + 1) chosen ks)) ≡ true
        passed later false is e = onto (chosen n) (later e)
        passed later true is e = ⊎_elim
            (λ (own : f k.cond ≡ true). here is own (chosen n) refl)
            (λ (rest : list_any (λ (x : Numbered). f x.cond) (passing test pass (n + 1) ks) ≡ true). onto (chosen n) (later rest))
            (or_cases (f k.cond) (list_any (λ (x : Numbered). f x.cond) (passing test pass (n + 1) ks)) e)

-- a scan by an index is given no rows but of relations that the clauses name which the index may use
pub reach-of : (c : Contents) (q : Query) (r : RelNo) (i : IndexNo) (chosen near : ℕ → Bool) → ((j : ℕ) → chosen j ≡ nat_lt j (length q.classes.clauses) && is_condition (index_at c i) r.0 (clause_at q.classes.clauses j).cond) →
    ((k : ℕ) → near k ≡ others_named r.0 (conditions_from 0 chosen q.classes.clauses) k) → IsReach c q r i near
reach-of c q r i chosen near are near-is p scan k there =
    let ks = q.classes.clauses in
    let d = index_at c i in
    let found = index_conditions c q.classes i r.0 (has p.0) in
    let parts = and_parts (not (nat_eq k r.0)) (list_any (names_rel k) (conditions_of found)) (sym (scan.named k) ∙ there) in
    let among = any-allowed (λ (x : Numbered). names_rel k x.cond) d.method (passing (λ x. is_base r.0 x || is_param r.0 (has p.0) x) (is_condition d r.0) 0 ks) (sym (any-mapped (names_rel k) found) ∙ parts.1) in
    near-is k ∙ and_from (not (nat_eq k r.0)) (list_any (names_rel k) (conditions_from 0 chosen ks)) parts.0
    (among-all (names_rel k) (λ x. is_base r.0 x || is_param r.0 (has p.0) x) (is_condition d r.0) chosen 0 ks
    (λ j lt is. let e : 0 + j ≡ j = omega arith in ap chosen e ∙ are j ∙ and_from (nat_lt j (length ks)) (is_condition d r.0 (clause_at ks j).cond) (lt-ltb j (length ks) lt) is) among)

module _ (c : Contents) (q : Query) (r : RelNo) (i : IndexNo) (p : RelSet) (paths : List Path) where
  -- where the plan space has no such scan there is nothing to offer
  pub none-served : ¬ IsIndexScan c q r i false p → IsIndexServed c q r p paths i
  none-served never false backward built admissible = absurd (never (forward-built c q r i p false backward built))
  none-served never true backward built admissible = absurd (never (forward-built c q r i p false backward built.scan))

  pub not-reached : (near : RelSet) (b : Bool) → b ≡ false → IsTrue b ↔ ((k : ℕ) → IsTrue (has p.0 k) → IsTrue (has near.0 k)) → IsReach c q r i (has near.0) → IsIndexServed c q r p paths i
  not-reached near b is-not within reach = none-served (λ scan. true≢false (sym (within.1 (λ k is. reach p scan k is)) ∙ is-not))

module _ (c : Contents) (q : Query) (r : RelNo) where
  -- an entry for each index
  pub none-reached : AreReachedBy c q r [] []
  none-reached = record { indexes = refl; each = All-nil (IsReached c q r) }

  pub one-reached : (is : List IndexNo) (xs : List Reached) (n : ℕ) (d : IndexNo) (x : Reached) → n < length is → AreReachedBy c q r (take n is) xs → x.index ≡ get_or is n d → IsReached c q r x → AreReachedBy c q r (take (n + 1) is) (xs ++ x ∷ [])
  one-reached is xs n d x lt before same reached = record {
    indexes = map-append (λ (y : Reached). y.index) xs (x ∷ []) ∙ ap (λ (ys : List IndexNo). ys ++ x.index ∷ []) before.indexes ∙ ap (λ (j : IndexNo). take n is ++ j ∷ []) same ∙ sym (take_more is n d lt);
    each = All-push (IsReached c q r) xs x before.each reached;
  }

-- what holds of the index of each entry holds of each index
pub each-index : (P : IndexNo → Type 0) (xs : List Reached) → All (λ (x : Reached). P x.index) xs → All P (map (λ (x : Reached). x.index) xs)
each-index P [] h = All-nil P
each-index P (x ∷ xs) h = All-cons P x.index (map (λ (y : Reached). y.index) xs) (All-head (λ (y : Reached). P y.index) x xs h) (each-index P xs (All-tail (λ (y : Reached). P y.index) x xs h))
