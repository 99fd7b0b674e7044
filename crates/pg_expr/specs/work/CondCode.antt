-- A code of conditions: the steps by which a stack builds the condition. With it a model may hold conditions. Own.
use Rattle.std.specs.Prelude.{◌≡◌, ◌⊎◌, List, [], ◌∷◌, ◌++◌, refl}
use Rattle.std.specs.Coded.{Coded, code_by, coded_list}
use Rattle.std.proofs.Common.{inl, inr, ap, ◌∙◌}
use Rattle.pg_value.specs.declared.operators.Op.{Op}
use Rattle.pg_value.specs.declared.operators.Truth.{Truth}
use Rattle.pg_value.specs.declared.operators.Truth.TheVariants.{Unknown}
use Rattle.pg_expr.specs.declared.operand.ColRef.{ColRef}
use Rattle.pg_expr.specs.declared.operand.Operand.{Operand}
use Rattle.pg_expr.specs.Cond.{Cond, compare, is_null, is_not_null, bool_col, const, all_of, any_of, negation, Conds, no_conds, cond_and}

-- one step of the stack
pub data BuildStep : Type 0 where
  w_compare : Op → Operand → Operand → BuildStep
  w_null : ColRef → BuildStep
  w_not_null : ColRef → BuildStep
  w_bool : ColRef → BuildStep
  w_const : Truth → BuildStep
  w_all : BuildStep
  w_any : BuildStep
  w_not : BuildStep
  w_none : BuildStep
  w_and : BuildStep

-- the stack after a step, which puts a condition or a list in the place of its parts; a step that finds no such parts is
-- passed over
abbrev pub step : BuildStep → List (Cond ⊎ Conds) → List (Cond ⊎ Conds)
step (w_compare op l r) s = inl (compare op l r) ∷ s
step (w_null c) s = inl (is_null c) ∷ s
step (w_not_null c) s = inl (is_not_null c) ∷ s
step (w_bool c) s = inl (bool_col c) ∷ s
step (w_const t) s = inl (const t) ∷ s
step w_all (inr cs ∷ s) = inl (all_of cs) ∷ s
step w_any (inr cs ∷ s) = inl (any_of cs) ∷ s
step w_not (inl c ∷ s) = inl (negation c) ∷ s
step w_none s = inr no_conds ∷ s
step w_and (inr cs ∷ inl c ∷ s) = inr (cond_and c cs) ∷ s
step _ s = s

-- the stack after steps taken one after another
abbrev pub build : List BuildStep → List (Cond ⊎ Conds) → List (Cond ⊎ Conds)
build [] s = s
build (t ∷ ts) s = build ts (step t s)

-- the condition on top of the stack; Unknown where there is none
abbrev pub top : List (Cond ⊎ Conds) → Cond
top (inl c ∷ s) = c
top _ = const Unknown

abbrev mutual
  -- the steps that build a condition, those of its parts before its own
  pub steps : Cond → List BuildStep
  steps (compare op l r) = w_compare op l r ∷ []
  steps (is_null c) = w_null c ∷ []
  steps (is_not_null c) = w_not_null c ∷ []
  steps (bool_col c) = w_bool c ∷ []
  steps (const t) = w_const t ∷ []
  steps (all_of cs) = steps_all cs ++ w_all ∷ []
  steps (any_of cs) = steps_all cs ++ w_any ∷ []
  steps (negation c) = steps c ++ w_not ∷ []

  -- the steps that build a list of conditions: those of the first, of the rest, and one that joins the two
  pub steps_all : Conds → List BuildStep
  steps_all no_conds = w_none ∷ []
  steps_all (cond_and c cs) = steps c ++ (steps_all cs ++ w_and ∷ [])

build-append : (xs ys : List BuildStep) (s : List (Cond ⊎ Conds)) → build (xs ++ ys) s ≡ build ys (build xs s)
build-append [] ys s = refl
build-append (x ∷ xs) ys s = build-append xs ys (step x s)

mutual
  build-steps : (c : Cond) (s : List (Cond ⊎ Conds)) → build (steps c) s ≡ inl c ∷ s
  build-steps (compare op l r) s = refl
  build-steps (is_null c) s = refl
  build-steps (is_not_null c) s = refl
  build-steps (bool_col c) s = refl
  build-steps (const t) s = refl
  build-steps (all_of cs) s = build-append (steps_all cs) _ s ∙ ap (build (w_all ∷ [])) (build-steps_all cs s)
  build-steps (any_of cs) s = build-append (steps_all cs) _ s ∙ ap (build (w_any ∷ [])) (build-steps_all cs s)
  build-steps (negation c) s = build-append (steps c) _ s ∙ ap (build (w_not ∷ [])) (build-steps c s)

  build-steps_all : (cs : Conds) (s : List (Cond ⊎ Conds)) → build (steps_all cs) s ≡ inr cs ∷ s
  build-steps_all no_conds s = refl
  build-steps_all (cond_and c cs) s =
      build-append (steps c) _ s ∙ ap (build (steps_all cs ++ w_and ∷ [])) (build-steps c s)
      ∙ build-append (steps_all cs) _ (inl c ∷ s) ∙ ap (build (w_and ∷ [])) (build-steps_all cs (inl c ∷ s))

-- a condition is found again by its steps, so that the code tells conditions apart
pub built : (c : Cond) → top (build (steps c) []) ≡ c
built c = ap top (build-steps c [])

-- the code of conditions, from one of the steps
abbrev pub cond_code : Coded BuildStep → Coded Cond
cond_code words = code_by (List BuildStep) (coded_list words) steps (λ ts. top (build ts [])) built
