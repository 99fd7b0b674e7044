-- How many conjuncts a condition has in pushed form, part by part.
use Rattle.std.proofs.Common.{◌≡◌, ℕ, ◌+◌, Bool, false, refl, arith}
use Rattle.pg_expr.specs.Cond.{Cond, compare, is_null, is_not_null, bool_col, const, all_of, any_of, negation, Conds, no_conds, cond_and, joined}
use Rattle.pg_expr.specs.Conjuncts.{conjuncts_of, conjuncts_of_all}
use Rattle.pg_expr.specs.Pushed.{group_of, parts_of, pushed, pushed_parts}
use Rattle.expr_reader.specs.work.Counts.{count_of, conjuncts_counted}

-- the numbers of conjuncts of the parts of an AND
abbrev pub each_counted : Bool → Conds → ℕ
each_counted negated no_conds = 0
each_counted negated (cond_and c cs) = conjuncts_counted negated c + each_counted negated cs

count-joined : (cs ds : Conds) → count_of (joined cs ds) ≡ count_of cs + count_of ds
count-joined no_conds ds = omega arith
count-joined (cond_and c cs) ds = omega (arith, count-joined cs ds)

conjuncts-joined : (cs ds : Conds) → count_of (conjuncts_of_all (joined cs ds)) ≡ count_of (conjuncts_of_all cs) + count_of (conjuncts_of_all ds)
conjuncts-joined no_conds ds = omega arith
conjuncts-joined (cond_and c cs) ds =
    omega (arith, count-joined (conjuncts_of c) (conjuncts_of_all (joined cs ds)), count-joined (conjuncts_of c) (conjuncts_of_all cs), conjuncts-joined cs ds)

-- an AND among the parts of an AND counts as its parts
parts-counted : (c : Cond) → count_of (conjuncts_of_all (parts_of false c)) ≡ count_of (conjuncts_of c)
parts-counted (all_of cs) = refl
parts-counted (compare op l r) = refl
parts-counted (is_null c) = refl
parts-counted (is_not_null c) = refl
parts-counted (bool_col c) = refl
parts-counted (const t) = refl
parts-counted (any_of cs) = refl
parts-counted (negation c) = refl

pub all-counted : (negated : Bool) (cs : Conds) → count_of (conjuncts_of (group_of false (pushed_parts negated false cs))) ≡ each_counted negated cs
all-counted negated no_conds = refl
all-counted negated (cond_and c cs) =
    omega (arith, conjuncts-joined (parts_of false (pushed negated c)) (pushed_parts negated false cs), parts-counted (pushed negated c), all-counted negated cs)
