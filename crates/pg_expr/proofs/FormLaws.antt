-- The pushed form is in pushed form, and conjuncts of one are.
use Rattle.std.proofs.Common.{◌≡◌, ◌∙◌, ℕ, refl, ap, Bool, true, false, not, cond, ◌||◌, ◌&&◌, nat_eq, nat_lt, Option, None, Some, arith}
use Rattle.std.proofs.lemmas.Bool.Decides.{nat_tests}
use Rattle.std.proofs.lemmas.Grind.{common_steps}
use Rattle.pg_value.specs.declared.operators.Op.{Op}
use Rattle.pg_value.specs.declared.operators.Op.TheVariants.{AbsEq}
use Rattle.pg_value.specs.Truths.{negator_of, commutator_of}
use Rattle.pg_expr.specs.declared.operand.Operand.{Operand}
use Rattle.pg_expr.specs.declared.operand.Operand.TheVariants.{Col, Lit}
use Rattle.pg_expr.specs.Cond.{Cond, compare, is_null, is_not_null, bool_col, const, all_of, any_of, negation, Conds, no_conds, cond_and, joined}
use Rattle.pg_expr.specs.Conjuncts.{conjuncts_of, conjuncts_of_all}
use Rattle.pg_expr.specs.Pushed.{is_turned, placed, placed_not, group_of, parts_of, pushed, pushed_parts, is_group, KeepsNot, IsPushed, ArePushed}

lower_once : (a b x y : ℕ) → nat_lt a b || (nat_eq a b && nat_lt x y) ≡ true → nat_lt b a || (nat_eq b a && nat_lt y x) ≡ false
lower_once a b x y h = grind (arith, nat_tests, common_steps)

-- sides that change places stand right afterwards
turned-once : (l r : Operand) → is_turned l r ≡ true → is_turned r l ≡ false
turned-once (Col c) (Col d) h = lower_once d.rel.0 c.rel.0 d.col.0 c.col.0 h
turned-once (Lit v) (Col c) h = refl
turned-once (Col c) (Lit v) h = cc
turned-once (Lit v) (Lit w) h = cc

placed-by : (turns : Bool) (op : Op) (l r : Operand) → is_turned l r ≡ turns → IsPushed (cond turns (compare (commutator_of op) r l) (compare op l r))
placed-by true op l r e = turned-once l r e
placed-by false op l r e = e

pub placed-form : (op : Op) (l r : Operand) → IsPushed (placed op l r)
placed-form op l r = placed-by (is_turned l r) op l r refl

keeps_not-by : (turns : Bool) (op : Op) (l r : Operand) → op ≡ AbsEq → KeepsNot (cond turns (compare (commutator_of op) r l) (compare op l r))
keeps_not-by true op l r e = ap commutator_of e
keeps_not-by false op l r e = e

no_negator : (op : Op) → negator_of op ≡ None → op ≡ AbsEq
no_negator AbsEq e = refl
no_negator op e = cc

placed_not-form : (found : Option Op) (op : Op) (l r : Operand) → (found ≡ None → op ≡ AbsEq) → IsPushed (placed_not found op l r)
placed_not-form None op l r h = (keeps_not-by (is_turned l r) op l r (h refl), placed-form op l r)
placed_not-form (Some n) op l r h = placed-form n l r

group-form : (any : Bool) (cs : Conds) → ArePushed any cs → IsPushed (group_of any cs)
group-form false cs h = h
group-form true cs h = h

pub joined-form : (any : Bool) (cs ds : Conds) → ArePushed any cs → ArePushed any ds → ArePushed any (joined cs ds)
joined-form any no_conds ds h k = k
joined-form any (cond_and c cs) ds h k = (h.0, h.1, joined-form any cs ds h.2 k)

pub parts-form : (any : Bool) (c : Cond) → IsPushed c → ArePushed any (parts_of any c)
parts-form false (all_of cs) h = h
parts-form true (any_of cs) h = h
parts-form false (any_of cs) h = (refl, h, tt)
parts-form true (all_of cs) h = (refl, h, tt)
parts-form false (compare op l r) h = (refl, h, tt)
parts-form true (compare op l r) h = (refl, h, tt)
parts-form false (is_null c) h = (refl, h, tt)
parts-form true (is_null c) h = (refl, h, tt)
parts-form false (is_not_null c) h = (refl, h, tt)
parts-form true (is_not_null c) h = (refl, h, tt)
parts-form false (bool_col c) h = (refl, h, tt)
parts-form true (bool_col c) h = (refl, h, tt)
parts-form false (const t) h = (refl, h, tt)
parts-form true (const t) h = (refl, h, tt)
parts-form false (negation c) h = (refl, h, tt)
parts-form true (negation c) h = (refl, h, tt)

mutual
  pub pushed-form : (negated : Bool) (c : Cond) → IsPushed (pushed negated c)
  pushed-form false (compare op l r) = placed-form op l r
  pushed-form true (compare op l r) = placed_not-form (negator_of op) op l r (no_negator op)
  pushed-form false (is_null c) = tt
  pushed-form true (is_null c) = tt
  pushed-form false (is_not_null c) = tt
  pushed-form true (is_not_null c) = tt
  pushed-form false (bool_col c) = tt
  pushed-form true (bool_col c) = (tt, tt)
  pushed-form false (const t) = tt
  pushed-form true (const t) = tt
  pushed-form negated (all_of cs) = group-form negated _ (pushed_parts-form negated negated cs)
  pushed-form negated (any_of cs) = group-form (not negated) _ (pushed_parts-form negated (not negated) cs)
  pushed-form negated (negation c) = pushed-form (not negated) c

  pushed_parts-form : (negated any : Bool) (cs : Conds) → ArePushed any (pushed_parts negated any cs)
  pushed_parts-form negated any no_conds = tt
  pushed_parts-form negated any (cond_and c cs) = joined-form any (parts_of any (pushed negated c)) _ (parts-form any _ (pushed-form negated c)) (pushed_parts-form negated any cs)

-- the conjuncts of a condition in pushed form
mutual
  pub conjuncts-form : (c : Cond) → IsPushed c → ArePushed false (conjuncts_of c)
  conjuncts-form (compare op l r) h = (refl, h, tt)
  conjuncts-form (is_null c) h = (refl, h, tt)
  conjuncts-form (is_not_null c) h = (refl, h, tt)
  conjuncts-form (bool_col c) h = (refl, h, tt)
  conjuncts-form (const t) h = (refl, h, tt)
  conjuncts-form (all_of cs) h = all_conjuncts-form cs h
  conjuncts-form (any_of cs) h = (refl, h, tt)
  conjuncts-form (negation c) h = (refl, h, tt)

  all_conjuncts-form : (cs : Conds) → ArePushed false cs → ArePushed false (conjuncts_of_all cs)
  all_conjuncts-form no_conds h = tt
  all_conjuncts-form (cond_and c cs) h = joined-form false (conjuncts_of c) _ (conjuncts-form c h.1) (all_conjuncts-form cs h.2)

-- a condition in pushed form is its own pushed form
placed-fixed : (op : Op) (l r : Operand) → is_turned l r ≡ false → placed op l r ≡ compare op l r
placed-fixed op l r h = ap (λ (turns : Bool). cond turns (compare (commutator_of op) r l) (compare op l r)) h

alone-parts : (any : Bool) (c : Cond) → is_group any c ≡ false → parts_of any c ≡ cond_and c no_conds
alone-parts false (all_of cs) h = cc
alone-parts true (any_of cs) h = cc
alone-parts false (any_of cs) h = refl
alone-parts true (all_of cs) h = refl
alone-parts false (compare op l r) h = refl
alone-parts true (compare op l r) h = refl
alone-parts false (is_null c) h = refl
alone-parts true (is_null c) h = refl
alone-parts false (is_not_null c) h = refl
alone-parts true (is_not_null c) h = refl
alone-parts false (bool_col c) h = refl
alone-parts true (bool_col c) h = refl
alone-parts false (const t) h = refl
alone-parts true (const t) h = refl
alone-parts false (negation c) h = refl
alone-parts true (negation c) h = refl

not-fixed : (op : Op) (l r : Operand) → op ≡ AbsEq → is_turned l r ≡ false → placed_not (negator_of op) op l r ≡ negation (compare op l r)
not-fixed op l r e h = ap (λ (o : Op). placed_not (negator_of o) op l r) e ∙ ap negation (placed-fixed op l r h)

mutual
  pub pushed-fixed : (c : Cond) → IsPushed c → pushed false c ≡ c
  pushed-fixed (compare op l r) h = placed-fixed op l r h
  pushed-fixed (is_null c) h = refl
  pushed-fixed (is_not_null c) h = refl
  pushed-fixed (bool_col c) h = refl
  pushed-fixed (const t) h = refl
  pushed-fixed (all_of cs) h = ap all_of (parts-fixed false cs h)
  pushed-fixed (any_of cs) h = ap any_of (parts-fixed true cs h)
  pushed-fixed (negation (bool_col c)) h = refl
  pushed-fixed (negation (compare op l r)) h = not-fixed op l r h.0 h.1
  pushed-fixed (negation c) h = absurd h.0

  parts-fixed : (any : Bool) (cs : Conds) → ArePushed any cs → pushed_parts false any cs ≡ cs
  parts-fixed any no_conds h = refl
  parts-fixed any (cond_and c cs) h =
      ap (λ (d : Cond). joined (parts_of any d) (pushed_parts false any cs)) (pushed-fixed c h.1)
      ∙ ap (λ (ds : Conds). joined ds (pushed_parts false any cs)) (alone-parts any c h.0) ∙ ap (cond_and c) (parts-fixed any cs h.2)
