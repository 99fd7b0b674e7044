-- Lists of conditions that are the same.
use Rattle.std.proofs.Common.{◌≡◌, ℕ, zero, suc, ◌<◌, List, [], ◌∷◌, ◌++◌, length, get_or, refl, ap, arith}
use Rattle.pg_expr.specs.Cond.{Conds, no_conds, cond_and, joined}
use Rattle.pg_expr.specs.declared.expr.Expr.{Expr}
use Rattle.pg_expr.specs.work.View.{cond, conds}

pub conds-same : (a b : List Expr) → length a ≡ length b → ((k : ℕ) (d : Expr) → k < length a → cond (get_or a k d) ≡ cond (get_or b k d)) → conds a ≡ conds b
conds-same [] [] len each = refl
conds-same [] (y ∷ ys) len each = cc
conds-same (x ∷ xs) [] len each = cc
conds-same (x ∷ xs) (y ∷ ys) len each =
    let head = each 0 x (omega arith) in
    let tail = conds-same xs ys (omega (arith, len)) (λ k d lt. each (suc k) d (omega arith)) in
    cc

pub conds-length : (a b : List Expr) → conds a ≡ conds b → length a ≡ length b
conds-length [] [] e = refl
conds-length [] (y ∷ ys) e = cc
conds-length (x ∷ xs) [] e = cc
conds-length (x ∷ xs) (y ∷ ys) e = ap suc (conds-length xs ys (cc e))

pub conds-at : (a b : List Expr) (k : ℕ) (d : Expr) → conds a ≡ conds b → k < length a → cond (get_or a k d) ≡ cond (get_or b k d)
conds-at [] b k d e lt = absurd (omega arith)
conds-at (x ∷ xs) [] k d e lt = cc
conds-at (x ∷ xs) (y ∷ ys) zero d e lt = cc
conds-at (x ∷ xs) (y ∷ ys) (suc k) d e lt = conds-at xs ys k d (cc e) (omega arith)

pub ruleset lists = (conds-same, conds-length, conds-at)

pub joined-nil : (cs : Conds) → joined cs no_conds ≡ cs
joined-nil no_conds = refl
joined-nil (cond_and c cs) = ap (cond_and c) (joined-nil cs)

pub joined_assoc : (xs bs cs : Conds) → joined (joined xs bs) cs ≡ joined xs (joined bs cs)
joined_assoc no_conds bs cs = refl
joined_assoc (cond_and x xs) bs cs = ap (cond_and x) (joined_assoc xs bs cs)

pub conds-append : (a b : List Expr) → conds (a ++ b) ≡ joined (conds a) (conds b)
conds-append [] b = refl
conds-append (x ∷ xs) b = ap (cond_and (cond x)) (conds-append xs b)

pub ruleset joins = (joined-nil, joined_assoc, conds-append)
