-- The aliases of a parameterisation tell it.
use Rattle.std.proofs.Common.{◌≡◌, ◌<◌, ◌≤◌, ℕ, ◌+◌, Bool, true, false, not, cond, ◌&&◌, ◌||◌, nat_eq, nat_lt, List, [], ◌∷◌, length, refl, sym, ◌∙◌, ap, arith}
use Rattle.std.specs.Prelude.{All}
use Rattle.std.specs.List.{list_any}
use Rattle.std.proofs.lemmas.Bool.{and_from, and_parts, or_right, true≢false, lt-ltb}
use Rattle.std.proofs.lemmas.Bool.Decides.{nat_tests}
use Rattle.std.proofs.lemmas.List.Elements.{All-head, All-tail}
use Rattle.pg_base.specs.Sets.{has}
use Rattle.pg_base.specs.declared.numbers.IndexNo.{IndexNo}
use Rattle.pg_base.specs.declared.numbers.RelNo.{RelNo}
use Rattle.pg_base.specs.declared.rel_set.RelSet.{RelSet}
use Rattle.pg_base.proofs.SetLaws.{same_set}
use Rattle.pg_expr.specs.Cond.{Cond}
use Rattle.pg_expr.specs.Columns.{each_column, names_rel}
use Rattle.pg_expr.proofs.ColumnLaws.{weaker-each}
use Rattle.catalog.specs.Contents.{Contents}
use Rattle.eq_classes.specs.Clauses.{Clause}
use Rattle.eq_classes.specs.Parts.{has_column, is_inside}
use Rattle.eq_classes.proofs.InsideLemmas.{names_inside}
use Rattle.path_cost.specs.work.Columns.{IsOver, is_column_in}
use Rattle.path_cost.specs.Estimates.{conditions_from}
use Rattle.index_match.specs.Conditions.{index_conditions}
use Rattle.index_match.specs.Numbered.{has_number}
use Rattle.sql_query.specs.Queries.{Query, all_of_query, width}
use Rattle.sql_query.specs.WellBound.{IsWellBound}
use Rattle.plan_laws.proofs.OverLemmas.{clauses_over}
use Rattle.plan_tree.specs.Bitmaps.{uses}
use Rattle.plan_tree.specs.Plans.{BitTree}
use Rattle.plan_tree.specs.Space.{IsBitmapScan, IsIndexScan}
use Rattle.plan_space.proofs.NamedLemmas.{conditions-of-table, named-same}
use Rattle.explain.specs.Texts.{aliases_in}
use Rattle.explain_laws.proofs.NameLemmas.{aliases-same}

-- a set has relations of the query alone
abbrev pub IsOfQuery : Query → RelSet → Type 0
IsOfQuery q p = (k : ℕ) → width q ≤ k → has p.0 k ≡ false

module _ (c : Contents) (q : Query) (bound : IsWellBound c q) where
  -- the condition of a clause names relations of the query alone
  cond-inside : (e : Cond) → IsOver c q.range e → (k : ℕ) → width q ≤ k → names_rel k e ≡ false
  cond-inside e over k le = by (names_rel k e) refl
    where
      below : (x : ℕ) → nat_lt x (length q.range) ≡ true → nat_lt x (width q) ≡ true
      below x h = h

      inside : is_inside (all_of_query q) e ≡ true
      inside =
          and_from (each_column (λ x. all_of_query q x.rel.0) e) (has_column e || all_of_query q 0)
          (weaker-each (is_column_in c q.range) (λ x. all_of_query q x.rel.0) (λ x h. below x.rel.0 (and_parts (nat_lt x.rel.0 (length q.range)) _ h).0) e over.columns)
          (or_right (has_column e) (all_of_query q 0) (lt-ltb 0 (width q) bound.range.some))

      out : all_of_query q k ≡ false
      out = grind (arith, nat_tests, le)

      by : (b : Bool) → names_rel k e ≡ b → names_rel k e ≡ false
      by false p = p
      by true p = absurd (true≢false (sym inside ∙ names_inside (all_of_query q) k e out p))

  picked-inside : (k : ℕ) → width q ≤ k → (n : ℕ) (chosen : ℕ → Bool) (ks : List Clause) → All (λ (x : Clause). IsOver c q.range x.cond) ks → list_any (names_rel k) (conditions_from n chosen ks) ≡ false
  picked-inside k le n chosen [] h = refl
  picked-inside k le n chosen (x ∷ xs) h =
      by (chosen n) (cond-inside x.cond (All-head (λ (y : Clause). IsOver c q.range y.cond) x xs h) k le) (picked-inside k le (n + 1) chosen xs (All-tail (λ (y : Clause). IsOver c q.range y.cond) x xs h))
    where
      by : (b : Bool) → names_rel k x.cond ≡ false → list_any (names_rel k) (conditions_from (n + 1) chosen xs) ≡ false →
          list_any (names_rel k) (cond b (x.cond ∷ conditions_from (n + 1) chosen xs) (conditions_from (n + 1) chosen xs)) ≡ false
      by true f g = ap (λ (v : Bool). v || list_any (names_rel k) (conditions_from (n + 1) chosen xs)) f ∙ g
      by false f g = g

  and-none : (a : Bool) → a && false ≡ false
  and-none true = refl
  and-none false = refl

  pub index-param : (r : RelNo) (i : IndexNo) (backward : Bool) (p : RelSet) → IsIndexScan c q r i backward p → IsOfQuery q p
  index-param r i backward p is k le =
      let cs = index_conditions c q.classes i r.0 (has p.0) in
      is.named k
      ∙ ap (λ (b : Bool). not (nat_eq k r.0) && b)
      (named-same q.classes.clauses cs (has_number cs) (names_rel k) (conditions-of-table c q.classes i r.0 (has p.0)) (λ n. refl)
      ∙ picked-inside k le 0 (has_number cs) q.classes.clauses (clauses_over c q bound))
      ∙ and-none (not (nat_eq k r.0))

  pub bitmap-param : (r : RelNo) (p : RelSet) (bits : BitTree) → IsBitmapScan c q r p bits → IsOfQuery q p
  bitmap-param r p bits is k le =
      is.named k
      ∙ ap (λ (b : Bool). not (nat_eq k r.0) && b) (picked-inside k le 0 (uses c q r.0 (has p.0) bits) q.classes.clauses (clauses_over c q bound))
      ∙ and-none (not (nat_eq k r.0))

  pub params-same : (p o : RelSet) → IsOfQuery q p → IsOfQuery q o → aliases_in 0 (has p.0) q.range ≡ aliases_in 0 (has o.0) q.range → p ≡ o
  params-same p o hp ho e =
      let same : p.0 ≡ o.0 = same_set p.0 o.0 (λ k. by k (nat_lt k (width q)) refl) in
      ap (λ (n : ℕ). let x : RelSet = record { 0 = n } in x) same
    where
      by : (k : ℕ) (b : Bool) → nat_lt k (width q) ≡ b → has p.0 k ≡ has o.0 k
      by k true h = let lt : k < length q.range = grind (arith, nat_tests, h) in aliases-same 0 (has p.0) (has o.0) q.range bound.range.distinct e k (omega arith) (omega (arith, lt))
      by k false h = let le : width q ≤ k = grind (arith, nat_tests, h) in hp k le ∙ sym (ho k le)
