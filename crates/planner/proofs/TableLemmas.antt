-- What a table has after a front was put: the base of a search, and the scans of each relation so far.
use Rattle.std.proofs.Common.{◌≡◌, ◌<◌, ◌≤◌, ◌+◌, ◌⊎◌, inl, inr, ℕ, Bool, true, false, nat_eq, List, map, refl, sym, ◌∙◌, ap, subst, subst₂, arith}
use Rattle.std.specs.Prelude.{All, Option, None, Some}
use Rattle.std.proofs.lemmas.Bool.{cases_lt, eq-eqb, eqb-true, true≢false}
use Rattle.std.proofs.lemmas.List.Elements.{All-nil, All-weaker}
use Rattle.pg_base.specs.Sets.{has}
use Rattle.pg_base.specs.declared.numbers.RelNo.{RelNo}
use Rattle.pg_base.specs.declared.rel_set.RelSet.{RelSet}
use Rattle.pg_base.proofs.SetLaws.{same_set}
use Rattle.catalog.specs.Contents.{Contents}
use Rattle.eq_classes.specs.Clauses.{one}
use Rattle.sql_query.specs.Queries.{Query, all_of_query}
use Rattle.plan_tree.specs.Space.{IsSameSet}
use Rattle.plan_tree.specs.work.Paths.{Path}
use Rattle.plan_tree.specs.work.Fronts.{AreDominated, IsOffer}
use Rattle.plan_tree.specs.work.Reads.{IsOverTables}
use Rattle.plan_tree.specs.work.Views.{path}
use Rattle.plan_tree.specs.declared.path.Path.{Path as Costed}
use Rattle.join_search.specs.work.Joins.{ArePlaced, HaveSameScans, IsBase, IsPathAt, IsSingle}
use Rattle.join_search.specs.work.Tables.{IsSamePlace, front_at, paths_at, paths_of}
use Rattle.join_search.specs.declared.table.Table.{Table}
use Rattle.planner.specs.work.Bases.{HaveScansOf, is_plan}
use Rattle.planner.proofs.BaseLemmas.{scan-most}
use Rattle.join_search.proofs.TableLemmas.{same-number as same_number}

-- what holds at a place, and at each other one
pub at-each : (P : RelSet → RelSet → Type 0) (s p t o : RelSet) → P s p → (¬ IsSamePlace t o s p → P t o) → P t o
at-each P s p t o here others = by (nat_eq t.0 s.0) (nat_eq o.0 p.0) refl refl
  where
    by : (a b : Bool) → nat_eq t.0 s.0 ≡ a → nat_eq o.0 p.0 ≡ b → P t o
    by true true e f = subst₂ P (sym (same_number t s (eqb-true t.0 s.0 e))) (sym (same_number o p (eqb-true o.0 p.0 f))) here
    by false b e f = others (λ h. true≢false (sym (eq-eqb t.0 s.0 h.0) ∙ e))
    by true false e f = others (λ h. true≢false (sym (eq-eqb o.0 p.0 h.1) ∙ f))

module _ (c : Contents) (q : Query) where
  -- a path of a relation stands at its own place
  pub stands : (r : ℕ) (s p : RelSet) → IsSameSet (has s.0) (one r) → (x : Path) → IsOffer c q is_plan (one r) (has p.0) x → IsPathAt c q s p x
  stands r s p single x h = record {
    is_path = h.is_path;
    admissible = h.admissible;
    set = same_number x.set s (same_set x.set.0 s.0 (λ k. sym (h.is_path.plan.set_is k) ∙ h.plan.set_is k ∙ sym (single k)));
    param = same_number x.param p (same_set x.param.0 p.0 (λ k. sym (h.is_path.plan.param_is k) ∙ h.plan.param_is k));
  }

  module _ (old new : Table) (s p : RelSet) (front : List Costed) (others : (t o : RelSet) → ¬ IsSamePlace t o s p → front_at new t o ≡ front_at old t o) (here : front_at new s p ≡ Some front) where
    pub base-put : (r : ℕ) → IsSameSet (has s.0) (one r) → All (IsOffer c q is_plan (one r) (has p.0)) (map path front) → IsBase c q old → IsBase c q new
    base-put r single offers base = record {
      single = λ t o. at-each (λ x y. (f : List Costed) → front_at new x y ≡ Some f → IsSingle x) s p t o (λ f e. (r, single)) (λ other f e. base.single t o f (sym (others t o other) ∙ e));
      placed = record {
        paths = λ t o. at-each (λ x y. All (IsPathAt c q x y) (paths_at new x y)) s p t o
            (subst (λ f. All (IsPathAt c q s p) (paths_of f)) (sym here) (All-weaker (IsOffer c q is_plan (one r) (has p.0)) (IsPathAt c q s p) (stands r s p single) (map path front) offers))
            (λ other. subst (λ f. All (IsPathAt c q t o) (paths_of f)) (sym (others t o other)) (base.placed.paths t o));
      };
    }

  -- the scans of a relation with parameterisations below a number were put, and nothing at other sets
  pub record IsRelationSoFar (old new : Table) (r : ℕ) (s : RelSet) (n : ℕ) : Type 0 where
    pub base : IsBase c q new
    pub scans : (p : RelSet) → p.0 < n → AreDominated c q is_plan (one r) (has p.0) (paths_at new s p)
    pub others : (t o : RelSet) → ¬ IsSameSet (has t.0) (one r) → front_at new t o ≡ front_at old t o

  pub relation-none : (t : Table) (r : ℕ) (s : RelSet) → IsBase c q t → IsRelationSoFar t t r s 0
  relation-none t r s base = record { base = base; scans = λ p lt. absurd (omega (arith, lt)); others = λ x o h. refl }

  module _ (old mid new : Table) (r : ℕ) (s p : RelSet) (n : ℕ) where
    pub relation-more : IsRelationSoFar old mid r s n → IsSameSet (has s.0) (one r) → p.0 ≡ n → IsBase c q new → AreDominated c q is_plan (one r) (has p.0) (paths_at new s p) →
        ((t o : RelSet) → ¬ IsSamePlace t o s p → front_at new t o ≡ front_at mid t o) → IsRelationSoFar old new r s (n + 1)
    relation-more before single is base here others = record {
      base = base;
      scans = λ o lt. scan o lt (nat_eq o.0 n) refl;
      others = λ t o h. others t o (λ same. h (λ k. ap (λ m. has m k) same.0 ∙ single k)) ∙ before.others t o h;
    }
      where
        scan : (o : RelSet) → o.0 < n + 1 → (b : Bool) → nat_eq o.0 n ≡ b → AreDominated c q is_plan (one r) (has o.0) (paths_at new s o)
        scan o lt true e = subst (λ (x : RelSet). AreDominated c q is_plan (one r) (has x.0) (paths_at new s x)) (same_number p o (is ∙ sym (eqb-true o.0 n e))) here
        scan o lt false e =
            let apart : ¬ (o.0 ≡ n) = λ h. true≢false (sym (eq-eqb o.0 n h) ∙ e) in
            subst (λ f. AreDominated c q is_plan (one r) (has o.0) (paths_of f)) (sym (others s o (λ same. apart (same.1 ∙ is))))
            (before.scans o (lower o.0 n lt apart))
          where
            lower : (m k : ℕ) → m < k + 1 → ¬ (m ≡ k) → m < k
            lower m k below not = elim (cases_lt m k) [ inl h ↦ h | inr h ↦ absurd (not (omega (arith, below, h))) ]

  -- all scans of a relation were put, where the number is past the set of all relations
  pub relation-all : (old new : Table) (r : RelNo) (s all : RelSet) (n : ℕ) → IsOverTables c q → IsSameSet (has s.0) (one r.0) → IsSameSet (has all.0) (all_of_query q) → all.0 < n → IsRelationSoFar old new r.0 s n → HaveScansOf c q (paths_at new) r.0
  relation-all old new r s all n over single is_all past h = record {
    dominated = λ t p alone. subst (λ (x : RelSet). AreDominated c q is_plan (one r.0) (has p.0) (paths_at new x p))
        (same_number s t (same_set s.0 t.0 (λ k. single k ∙ sym (alone k)))) (each p);
  }
    where
      each : (p : RelSet) → AreDominated c q is_plan (one r.0) (has p.0) (paths_at new s p)
      each p t of below u = let most = scan-most c q r p over all is_all t of in h.scans p (omega (arith, most, past)) t of below u

  -- the scans of the relations below a number were put
  pub record IsBaseSoFar (t : Table) (n : ℕ) : Type 0 where
    pub base : IsBase c q t
    pub scans : (r : ℕ) → r < n → HaveScansOf c q (paths_at t) r

  pub base-none : (t : Table) → ((s p : RelSet) → front_at t s p ≡ None) → IsBaseSoFar t 0
  base-none t none = record {
    base = record {
      single = λ s p f e. absurd (some-none (sym e ∙ none s p));
      placed = record { paths = λ s p. subst (λ f. All (IsPathAt c q s p) (paths_of f)) (sym (none s p)) (All-nil (IsPathAt c q s p)) };
    };
    scans = λ r lt. absurd (omega (arith, lt));
  }
    where
      some-none : {f : List Costed} → Some f ≡ None → ⊥
      some-none e = cc

  pub base-more : (old new : Table) (n : ℕ) → IsBaseSoFar old n → IsBase c q new → HaveScansOf c q (paths_at new) n → ((t o : RelSet) → ¬ IsSameSet (has t.0) (one n) → front_at new t o ≡ front_at old t o) → IsBaseSoFar new (n + 1)
  base-more old new n before base here others = record { base = base; scans = λ r lt. scan r lt (nat_eq r n) refl }
    where
      scan : (r : ℕ) → r < n + 1 → (b : Bool) → nat_eq r n ≡ b → HaveScansOf c q (paths_at new) r
      scan r lt true e = subst (HaveScansOf c q (paths_at new)) (sym (eqb-true r n e)) here
      scan r lt false e = record {
        dominated = λ s p alone. subst (λ f. AreDominated c q is_plan (one r) (has p.0) (paths_of f))
            (sym (others s p (λ same. true≢false (sym (sym (same r) ∙ alone r ∙ eq-eqb r r refl) ∙ e))))
            ((before.scans r (lower (cases_lt r n))).dominated s p alone);
      }
        where
          lower : (r < n) ⊎ (n ≤ r) → r < n
          lower (inl h) = h
          lower (inr h) = absurd (true≢false (sym (eq-eqb r n (omega (arith, lt, h))) ∙ e))

  -- a search leaves the fronts of single relations
  pub scans-handed : (base found : Table) → ((s p : RelSet) → IsSingle s → front_at found s p ≡ front_at base s p) → (r : ℕ) → HaveScansOf c q (paths_at base) r → HaveScansOf c q (paths_at found) r
  scans-handed base found handed r h = record {
    dominated = λ s p alone. subst (λ f. AreDominated c q is_plan (one r) (has p.0) (paths_of f)) (sym (handed s p (r, alone))) (h.dominated s p alone);
  }

  -- where only fronts of single relations are left, and these as they were, they are a base
  pub base-forgotten : (old new : Table) → ArePlaced c q (paths_at old) → HaveSameScans new old → ((s p : RelSet) (f : List Costed) → front_at new s p ≡ Some f → IsSingle s) → IsBase c q new
  base-forgotten old new placed same single = record { single = single; placed = record { paths = λ s p. by s p (front_at new s p) refl } }
    where
      by : (s p : RelSet) (o : Option (List Costed)) → front_at new s p ≡ o → All (IsPathAt c q s p) (paths_of o)
      by s p None e = All-nil (IsPathAt c q s p)
      by s p (Some f) e = subst (λ o. All (IsPathAt c q s p) (paths_of o)) (sym (same s p (single s p f e)) ∙ e) (placed.paths s p)
