-- What a scan is given, the conjuncts of its relation name, or a pair clause of it and one other relation does.
use Rattle.std.proofs.Common.{◌≡◌, ◌<◌, ◌≤◌, ◌+◌, ◌⊎◌, inl, inr, ℕ, zero, suc, Bool, true, false, not, cond, ◌&&◌, ◌||◌, nat_eq, nat_lt, List, [], ◌∷◌, length, refl, sym, ◌∙◌, ap, subst, arith, ⊎_elim}
use Rattle.std.specs.Prelude.{is_some}
use Rattle.std.specs.List.{list_any}
use Rattle.std.proofs.lemmas.Bool.{and_from, and_parts, lt-ltb, or_cases, or_left, or_right, true≢false, cases_lt}
use Rattle.pg_base.specs.Sets.{has}
use Rattle.pg_base.specs.declared.numbers.RelNo.{RelNo}
use Rattle.pg_expr.specs.Columns.{names_rel}
use Rattle.pg_expr.specs.Cond.{Cond}
use Rattle.catalog.specs.Contents.{Contents}
use Rattle.eq_classes.specs.Clauses.{Clause, Set, ClauseSource, by_conjunct, by_class, by_pair, one}
use Rattle.eq_classes.specs.Listing.{clause_at, conjunct_of}
use Rattle.eq_classes.specs.Parts.{is_inside, is_lowest, is_param, is_param_from, names_some, union}
use Rattle.eq_classes.proofs.ClassLemmas.{first_inside, first_of_own, lowest_at, lowest_is}
use Rattle.path_cost.specs.Estimates.{conditions_from, conditions_where}
use Rattle.sql_query.specs.Queries.{Query, width}
use Rattle.plan_tree.specs.work.Reads.{IsOverTables}
use Rattle.plan_tree.specs.Space.{others_named}
use Rattle.planner.specs.work.Near.{AreConjuncts, HavePairs, IsNear}
use Rattle.planner.proofs.BaseLemmas.{scan-below, scan-named}
use Rattle.planner.proofs.GivenLemmas.{named-where}

-- some condition of a set of numbers passes a test: the clause of one of the numbers does
some-at : (f : Cond → Bool) (chosen : ℕ → Bool) (ks : List Clause) (a : ℕ) → list_any f (conditions_from a chosen ks) ≡ true →
    (n : ℕ) × (n < length ks) × (chosen (a + n) ≡ true) × (f (clause_at ks n).cond ≡ true)
some-at f chosen [] a h = absurd (true≢false (sym h))
some-at f chosen (x ∷ ks) a h = by (λ g. some-at f chosen ks (a + 1) g) (chosen a) refl h
  where
    more : (list_any f (conditions_from (a + 1) chosen ks) ≡ true → (n : ℕ) × (n < length ks) × (chosen (a + 1 + n) ≡ true) × (f (clause_at ks n).cond ≡ true)) →
        list_any f (conditions_from (a + 1) chosen ks) ≡ true → (n : ℕ) × (n < length (x ∷ ks)) × (chosen (a + n) ≡ true) × (f (clause_at (x ∷ ks) n).cond ≡ true)
    more later g =
        let r = later g in
        let same : a + 1 + r.0 ≡ a + suc r.0 = omega arith in
        (suc r.0, omega (arith, r.1), ap chosen (sym same) ∙ r.2, r.3)

    by : (list_any f (conditions_from (a + 1) chosen ks) ≡ true → (n : ℕ) × (n < length ks) × (chosen (a + 1 + n) ≡ true) × (f (clause_at ks n).cond ≡ true)) → (b : Bool) → chosen a ≡ b →
        list_any f (cond b (x.cond ∷ conditions_from (a + 1) chosen ks) (conditions_from (a + 1) chosen ks)) ≡ true → (n : ℕ) × (n < length (x ∷ ks)) × (chosen (a + n) ≡ true) × (f (clause_at (x ∷ ks) n).cond ≡ true)
    by later true e g = ⊎_elim
        (λ (here : f x.cond ≡ true). let same : a + 0 ≡ a = omega arith in (0, omega arith, ap chosen same ∙ e, here))
        (λ (rest : list_any f (conditions_from (a + 1) chosen ks) ≡ true). more later rest)
        (or_cases (f x.cond) (list_any f (conditions_from (a + 1) chosen ks)) g)
    by later false e g = more later g

-- the clause of a number of a set passes a test: some condition of the set does
at-some : (f : Cond → Bool) (chosen : ℕ → Bool) (ks : List Clause) (a n : ℕ) → n < length ks → chosen (a + n) ≡ true → f (clause_at ks n).cond ≡ true → list_any f (conditions_from a chosen ks) ≡ true
at-some f chosen [] a n lt is h = absurd (omega (arith, lt))
at-some f chosen (x ∷ ks) a zero lt is h = by (chosen a) (let same : a ≡ a + 0 = omega arith in ap chosen same ∙ is)
  where
    by : (b : Bool) → b ≡ true → list_any f (cond b (x.cond ∷ conditions_from (a + 1) chosen ks) (conditions_from (a + 1) chosen ks)) ≡ true
    by true e = ap (λ b. b || list_any f (conditions_from (a + 1) chosen ks)) h
    by false e = absurd (true≢false (sym e))
at-some f chosen (x ∷ ks) a (suc n) lt is h =
    by (at-some f chosen ks (a + 1) n (omega (arith, lt)) (let same : a + 1 + n ≡ a + suc n = omega arith in ap chosen same ∙ is) h) (chosen a)
  where
    by : list_any f (conditions_from (a + 1) chosen ks) ≡ true → (b : Bool) → list_any f (cond b (x.cond ∷ conditions_from (a + 1) chosen ks) (conditions_from (a + 1) chosen ks)) ≡ true
    by later true = or_right (f x.cond) (list_any f (conditions_from (a + 1) chosen ks)) later
    by later false = later

-- a clause that is tested given some rows comes from a conjunct that names the relation, or is tested given the row of one of
-- these relations
conjunct-or-one : (r : ℕ) (p : Set) (e : Cond) (s : ClauseSource) → is_param_from r p e s ≡ true →
    (is_some (conjunct_of s) && names_rel r e ≡ true) ⊎ ((m : ℕ) × (p m ≡ true) × (is_param_from r (one m) e s ≡ true))
conjunct-or-one r p e (by_conjunct n) h =
    inl (and_parts (names_rel r e) (names_some p e) (and_parts (is_inside (union (one r) p) e) (names_rel r e && names_some p e) h).1).0
conjunct-or-one r p e (by_class n k) h = absurd (true≢false (sym h))
conjunct-or-one r p e (by_pair n k l g) h = inr (⊎_elim
    (λ (both : is_lowest k (one r) l && is_lowest k p g ≡ true).
    let parts = and_parts (is_lowest k (one r) l) (is_lowest k p g) both in
    let m = alone g parts.1 in
    (g, m.0, or_left (is_lowest k (one r) l && is_lowest k (one g) g) (is_lowest k (one g) l && is_lowest k (one r) g) (and_from (is_lowest k (one r) l) (is_lowest k (one g) g) parts.0 m.1)))
    (λ (both : is_lowest k p l && is_lowest k (one r) g ≡ true).
    let parts = and_parts (is_lowest k p l) (is_lowest k (one r) g) both in
    let m = alone l parts.0 in
    (l, m.0, or_right (is_lowest k (one r) l && is_lowest k (one l) g) (is_lowest k (one l) l && is_lowest k (one r) g) (and_from (is_lowest k (one l) l) (is_lowest k (one r) g) m.1 parts.1)))
    (or_cases (is_lowest k (one r) l && is_lowest k p g) (is_lowest k p l && is_lowest k (one r) g) h))
  where
    alone : (m : ℕ) → is_lowest k p m ≡ true → (p m ≡ true) × (is_lowest k (one m) m ≡ true)
    alone m low =
        let at = lowest_at k p m low in (
          ap p (sym at.2) ∙ first_inside k p at.0 at.1,
          subst (λ (j : ℕ). is_lowest k (one j) j ≡ true) at.2 (lowest_is k (one at.0.rel.0) at.0 (first_of_own k p at.0 at.1)),
        )

module _ (c : Contents) (q : Query) (over : IsOverTables c q) (r : RelNo) where
  pub near-all : (chosen near pairs all : ℕ → Bool) → AreConjuncts q r.0 chosen → ((k : ℕ) → near k ≡ others_named r.0 (conditions_from 0 chosen q.classes.clauses) k) → HavePairs q r.0 (width q) pairs →
      ((k : ℕ) → all k ≡ near k || pairs k) → IsNear c q r.0 all
  near-all chosen near pairs all are near-is have all-is p t of k there =
      let ks = q.classes.clauses in
      let given = λ (n : ℕ). nat_lt n (length ks) && is_param r.0 (has p.0) (clause_at ks n) in
      let named = scan-named c q r p given (λ n. refl) t of k there in
      let parts = and_parts (not (nat_eq k r.0)) (list_any (names_rel k) (conditions_from 0 given ks)) named in
      let at = some-at (names_rel k) given ks 0 parts.1 in
      let zero-plus : 0 + at.0 ≡ at.0 = omega arith in
      let param = (and_parts (nat_lt at.0 (length ks)) (is_param r.0 (has p.0) (clause_at ks at.0)) (ap given (sym zero-plus) ∙ at.2)).1 in
      all-is k ∙ ⊎_elim
      (λ (own : is_some (conjunct_of (clause_at ks at.0).source) && names_rel r.0 (clause_at ks at.0).cond ≡ true).
      let is = ap chosen zero-plus ∙ are at.0 ∙ and_from (nat_lt at.0 (length ks)) _ (lt-ltb at.0 (length ks) at.1) own in
      or_left (near k) (pairs k) (near-is k ∙ and_from (not (nat_eq k r.0)) (list_any (names_rel k) (conditions_from 0 chosen ks)) parts.0 (at-some (names_rel k) chosen ks 0 at.0 at.1 is at.3)))
      (λ (one-of : (m : ℕ) × (has p.0 m ≡ true) × (is_param r.0 (one m) (clause_at ks at.0) ≡ true)).
      let m = one-of.0 in
      let tested = λ (n : ℕ). nat_lt n (length ks) && is_param r.0 (one m) (clause_at ks n) in
      let is = ap tested zero-plus ∙ and_from (nat_lt at.0 (length ks)) (is_param r.0 (one m) (clause_at ks at.0)) (lt-ltb at.0 (length ks) at.1) one-of.2 in
      let names = and_from (not (nat_eq k r.0)) (list_any (names_rel k) (conditions_from 0 tested ks)) parts.0 (at-some (names_rel k) tested ks 0 at.0 at.1 is at.3) in
      or_right (near k) (pairs k) (have m (scan-below c q r p over t of m one-of.1) k (sym (named-where r.0 (one m) ks tested (λ n. refl) k) ∙ names)))
      (conjunct-or-one r.0 (has p.0) (clause_at ks at.0).cond (clause_at ks at.0).source param)

-- one relation more
pub pairs-more : (q : Query) (r n : ℕ) (old new : Set) → HavePairs q r n old → ((k : ℕ) → new k ≡ old k || others_named r (conditions_where (is_param r (one n)) q.classes.clauses) k) → HavePairs q r (n + 1) new
pairs-more q r n old new have more m lt k named = more k ∙ ⊎_elim
    (λ (below : m < n). or_left (old k) _ (have m below k named))
    (λ (not-below : n ≤ m).
    let same : m ≡ n = omega (arith, lt, not-below) in
    or_right (old k) _ (subst (λ (j : ℕ). others_named r (conditions_where (is_param r (one j)) q.classes.clauses) k ≡ true) same named))
    (cases_lt m n)
