-- Conditions of a list, one at a time.
use Rattle.std.proofs.Common.{◌≡◌, ◌⊎◌, inl, inr, ℕ, zero, suc, ◌+◌, ◌<◌, ◌≤◌, List, [], ◌∷◌, length, get_or, drop, true, false, IsTrue, refl, arith, sym, subst, ap, drop-cons, add-one}
use Rattle.std.specs.Prelude.{◌↔◌, slice_get, Some}
use Rattle.std.proofs.Math.ListN.{drop_of_length-le}
use Rattle.pg_value.specs.declared.columns.Column.{Column}
use Rattle.pg_expr.specs.declared.expr.Expr.{Expr}
use Rattle.pg_expr.specs.Cond.{Cond, Conds, no_conds, cond_and, conds_of}
use Rattle.pg_expr.specs.work.View.{cond, conds}
use Rattle.predicate_proof.proofs.Weight.{weight, weight_all}
use Rattle.predicate_proof.specs.Derivation.{Implies, ImpliesAll, part_and, ImpliesSome, this_part, later_part, AllImply, arm_and, SomeImplies, this_clause, later_clause, EachImpliesSome, choice_and}

pub weight_at : (xs : List Expr) (k : ℕ) (x : Expr) → k < length xs → x ≡ get_or xs k x → weight (cond x) ≤ weight_all (conds xs)
weight_at [] k x lt is = absurd (omega arith)
weight_at (y ∷ ys) zero x lt is = let same : weight (cond x) ≡ weight (cond y) = ap (λ e. weight (cond e)) is in omega (arith, same)
weight_at (y ∷ ys) (suc k) x lt is = omega (arith, weight_at ys k x (omega arith) is)

pub rest_is : (xs : List Expr) (k : ℕ) (x : Expr) → k < length xs → x ≡ get_or xs k x → conds (drop k xs) ≡ cond_and (cond x) (conds (drop (k + 1) xs))
rest_is xs k x lt is = rw (add-one, drop-cons xs k x lt, ← is)

pub end_is : (xs : List Expr) (k : ℕ) → length xs ≤ k → conds (drop k xs) ≡ no_conds
end_is xs k le = ap conds (drop_of_length-le xs le)

-- the trees of a list from a place on, by the one there and those after it
tree_split : (xs : List Cond) (k : ℕ) (x : Cond) → slice_get xs k ≡ Some x → conds_of (drop k xs) ≡ cond_and x (conds_of (drop (suc k) xs))
tree_split [] k x is = cc
tree_split (y ∷ ys) zero x is = cc
tree_split (y ∷ ys) (suc k) x is = tree_split ys k x is

pub tree_rest_is : (xs : List Cond) (k : ℕ) (x : Cond) → slice_get xs k ≡ Some x → conds_of (drop k xs) ≡ cond_and x (conds_of (drop (k + 1) xs))
tree_rest_is xs k x is = rw add-one (tree_split xs k x is)

pub tree_end_is : (xs : List Cond) (k : ℕ) → length xs ≤ k → conds_of (drop k xs) ≡ no_conds
tree_end_is xs k le = ap conds_of (drop_of_length-le xs le)

-- a fact of lists that holds where one of each member does, along a loop: the list before the member x is x and then the list after it
module _ (P : Conds → Type 0) (Q : Cond → Type 0) (step : (c : Cond) (cs : Conds) → P (cond_and c cs) ↔ (Q c × P cs)) (whole before : Conds) (so_far : P before ↔ P whole) where
  pub all-more : (x : Cond) (after : Conds) → before ≡ cond_and x after → Q x → (P after ↔ P whole)
  all-more x after is first = (
    λ more. so_far.0 (subst P (sym is) ((step x after).1 (first, more))),
    λ all. ((step x after).0 (subst P is (so_far.1 all))).1,
  )

  pub all-stop : (x : Cond) (after : Conds) → before ≡ cond_and x after → (Q x → IsTrue false) → (IsTrue false ↔ P whole)
  all-stop x after is never = (λ h. absurd (cc h), λ all. never ((step x after).0 (subst P is (so_far.1 all))).0)

  pub all-end : before ≡ no_conds → P no_conds → (IsTrue true ↔ P whole)
  all-end is none = (λ h. so_far.0 (subst P (sym is) none), λ all. refl)

-- a fact of lists that holds where one of some member does
module _ (P : Conds → Type 0) (Q : Cond → Type 0) (step : (c : Cond) (cs : Conds) → P (cond_and c cs) ↔ (Q c ⊎ P cs)) (whole before : Conds) (so_far : P before ↔ P whole) where
  pub some-more : (x : Cond) (after : Conds) → before ≡ cond_and x after → (Q x → IsTrue false) → (P after ↔ P whole)
  some-more x after is never = (
    λ more. so_far.0 (subst P (sym is) ((step x after).1 (inr more))),
    λ some. elim ((step x after).0 (subst P is (so_far.1 some))) [ inl first ↦ absurd (cc (never first)) | inr more ↦ more ],
  )

  pub some-stop : (x : Cond) (after : Conds) → before ≡ cond_and x after → Q x → (IsTrue true ↔ P whole)
  some-stop x after is first = (λ h. so_far.0 (subst P (sym is) ((step x after).1 (inl first))), λ some. refl)

  pub some-end : before ≡ no_conds → (P no_conds → ⊥) → (IsTrue false ↔ P whole)
  some-end is none = (λ h. absurd (cc h), λ some. absurd (none (subst P is (so_far.1 some))))

module _ (columns : List Column) where
  pub each_part-step : (c p : Cond) (ps : Conds) → ImpliesAll columns c (cond_and p ps) ↔ (Implies columns c p × ImpliesAll columns c ps)
  each_part-step c p ps = (first_part c p ps, λ (first, more). part_and c p ps first more) where
    first_part : (c p : Cond) (ps : Conds) → ImpliesAll columns c (cond_and p ps) → Implies columns c p × ImpliesAll columns c ps
    first_part c p ps (part_and _ _ _ first more) = (first, more)

  pub some_part-step : (c p : Cond) (ps : Conds) → ImpliesSome columns c (cond_and p ps) ↔ (Implies columns c p ⊎ ImpliesSome columns c ps)
  some_part-step c p ps = (which_part c p ps, λ h. elim h [ inl first ↦ this_part c p ps first | inr more ↦ later_part c p ps more ]) where
    which_part : (c p : Cond) (ps : Conds) → ImpliesSome columns c (cond_and p ps) → Implies columns c p ⊎ ImpliesSome columns c ps
    which_part c p ps (this_part _ _ _ first) = inl first
    which_part c p ps (later_part _ _ _ more) = inr more

  pub no_some_part : (c : Cond) → ImpliesSome columns c no_conds → ⊥
  no_some_part c h = elim h [ ]

  pub each_arm-step : (p c : Cond) (cs : Conds) → AllImply columns (cond_and c cs) p ↔ (Implies columns c p × AllImply columns cs p)
  each_arm-step p c cs = (first_arm p c cs, λ (first, more). arm_and c p cs first more) where
    first_arm : (p c : Cond) (cs : Conds) → AllImply columns (cond_and c cs) p → Implies columns c p × AllImply columns cs p
    first_arm p c cs (arm_and _ _ _ first more) = (first, more)

  pub some_clause-step : (p c : Cond) (cs : Conds) → SomeImplies columns (cond_and c cs) p ↔ (Implies columns c p ⊎ SomeImplies columns cs p)
  some_clause-step p c cs = (which_clause p c cs, λ h. elim h [ inl first ↦ this_clause c p cs first | inr more ↦ later_clause c p cs more ]) where
    which_clause : (p c : Cond) (cs : Conds) → SomeImplies columns (cond_and c cs) p → Implies columns c p ⊎ SomeImplies columns cs p
    which_clause p c cs (this_clause _ _ _ first) = inl first
    which_clause p c cs (later_clause _ _ _ more) = inr more

  pub no_some_clause : (p : Cond) → SomeImplies columns no_conds p → ⊥
  no_some_clause p h = elim h [ ]

  pub each_choice-step : (ps : Conds) (c : Cond) (cs : Conds) → EachImpliesSome columns (cond_and c cs) ps ↔ (ImpliesSome columns c ps × EachImpliesSome columns cs ps)
  each_choice-step ps c cs = (first_choice ps c cs, λ (first, more). choice_and c cs ps first more) where
    first_choice : (ps : Conds) (c : Cond) (cs : Conds) → EachImpliesSome columns (cond_and c cs) ps → ImpliesSome columns c ps × EachImpliesSome columns cs ps
    first_choice ps c cs (choice_and _ _ _ first more) = (first, more)
