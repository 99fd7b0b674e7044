-- Each AND and each OR that is written has a part.
use Rattle.std.proofs.Common.{◌≡◌, Bool, true, false, Option, Some, None, Result, Ok, Err, cond, subst, List, [], ◌∷◌, codes}
use Rattle.pg_base.specs.declared.faults.Fault.{Fault}
use Rattle.pg_base.specs.declared.faults.Code.TheVariants.{S9}
use Rattle.pg_value.specs.declared.operators.Op.{Op}
use Rattle.pg_value.specs.declared.value.SqlType.{SqlType}
use Rattle.pg_value.specs.declared.value.SqlType.TheVariants as types
use Rattle.opfamily.specs.Answers.{does_exist}
use Rattle.pg_expr.specs.declared.operand.ColRef.{ColRef}
use Rattle.pg_expr.specs.declared.operand.Operand.{Operand}
use Rattle.pg_expr.specs.Cond.{Cond, compare as compared, negation, Conds, no_conds, cond_and}
use Rattle.sql_lex.specs.declared.tokens.Token.{Token}
use Rattle.sql_grammar.specs.Terminals.{Said}
use Rattle.sql_grammar.specs.Faults.{fault_at}
use Rattle.sql_grammar.specs.Syntax.{Lit, Col, OperandTree, column, literal, Negated, no_not, not_before, in_list, between, Expr, either_of, Ors, no_or, or_conj, Conj, both_of, Ands, no_and, and_neg, Neg, negated, plain, Atom, parens, compare, is_null, is_not_null, column_alone, constant_alone}
use Rattle.expr_reader.specs.Operators.{operator_of}
use Rattle.expr_reader.specs.work.Parted.{HasParts, HaveParts}
use Rattle.expr_reader.specs.Scope.{Scope}
use Rattle.expr_reader.specs.Conditions.{next, comparison, standing_for, negated_by, literals_after, equal_to, bounded_by, column_of, place_of_col, BoundSide, own_type, type_beside, operand_of, operated, compare_as, compare_sides, flag_column, then_parts, or_of, and_of, side_of, meaning_of_expr, meaning_of_ors, meaning_of_conj, meaning_of_ands, meaning_of_neg, meaning_of_atom}

-- where there is a meaning, it is so
abbrev IsParted : Result Cond Fault → Type 0
IsParted (Ok c) = HasParts c
IsParted (Err f) = Unit {0}

abbrev AreParted : Result Conds Fault → Type 0
AreParted (Ok cs) = HaveParts cs
AreParted (Err f) = Unit {0}

next-parted : {A : Type 0} (m : Result A Fault) (more : A → Result Cond Fault) → ((a : A) → IsParted (more a)) → IsParted (next m more)
next-parted (Ok a) more each = each a
next-parted (Err f) more each = tt

then-parted : (m : Result Cond Fault) (ms : Result Conds Fault) → IsParted m → AreParted ms → AreParted (then_parts m ms)
then-parted (Ok c) (Ok cs) h hs = (h, hs)
then-parted (Ok c) (Err f) h hs = tt
then-parted (Err f) ms h hs = tt

or-parted : (m : Result Cond Fault) (ms : Result Conds Fault) → IsParted m → AreParted ms → IsParted (next (then_parts m ms) (λ xs. Ok (or_of xs)))
or-parted (Ok c) (Ok no_conds) h hs = h
or-parted (Ok c) (Ok (cond_and d ds)) h hs = (tt, (h, hs))
or-parted (Ok c) (Err f) h hs = tt
or-parted (Err f) ms h hs = tt

and-parted : (m : Result Cond Fault) (ms : Result Conds Fault) → IsParted m → AreParted ms → IsParted (next (then_parts m ms) (λ xs. Ok (and_of xs)))
and-parted (Ok c) (Ok no_conds) h hs = h
and-parted (Ok c) (Ok (cond_and d ds)) h hs = (tt, (h, hs))
and-parted (Ok c) (Err f) h hs = tt
and-parted (Err f) ms h hs = tt

not-parted : (m : Result Cond Fault) → IsParted m → IsParted (next m (λ x. Ok (negation x)))
not-parted (Ok c) h = h
not-parted (Err f) h = tt

compared-parted : (exists : Bool) (op : Op) (token : Token) (x y : Operand) → IsParted (cond exists (Ok (compared op x y)) (Err (fault_at S9 token)))
compared-parted true op token x y = tt
compared-parted false op token x y = tt

operated-parted : (o : Option Op) (token : Token) (t u : SqlType) (x y : Operand) → IsParted (operated o token t u x y)
operated-parted None token t u x y = tt
operated-parted (Some op) token t u x y = compared-parted (does_exist op t u) op token x y

sides-parted : (op : Said) (a b : BoundSide) → IsParted (compare_sides op a b)
sides-parted op a b =
    let t = type_beside a (own_type b) in
    let u = type_beside b (own_type a) in
    next-parted (operand_of t a) _ (λ x. next-parted (operand_of u b) _ (λ y. operated-parted (operator_of op.value) op.token t u x y))

negated-parted : (n : Negated) (c : Cond) → HasParts c → HasParts (negated_by n c)
negated-parted no_not c h = h
negated-parted (not_before k) c h = h

or-negated : (n : Negated) (m : Result Cond Fault) (ms : Result Conds Fault) → IsParted m → AreParted ms → IsParted (next (then_parts m ms) (λ xs. Ok (negated_by n (or_of xs))))
or-negated n (Ok c) (Ok no_conds) h hs = negated-parted n c h
or-negated n (Ok c) (Ok (cond_and d ds)) h hs = negated-parted n (or_of (cond_and c (cond_and d ds))) (tt, (h, hs))
or-negated n (Ok c) (Err f) h hs = tt
or-negated n (Err f) ms h hs = tt

and-negated : (n : Negated) (m : Result Cond Fault) (ms : Result Conds Fault) → IsParted m → AreParted ms → IsParted (next (then_parts m ms) (λ xs. Ok (negated_by n (and_of xs))))
and-negated n (Ok c) (Ok no_conds) h hs = negated-parted n c h
and-negated n (Ok c) (Ok (cond_and d ds)) h hs = negated-parted n (and_of (cond_and c (cond_and d ds))) (tt, (h, hs))
and-negated n (Ok c) (Err f) h hs = tt
and-negated n (Err f) ms h hs = tt

flag-parted : (t : SqlType) (r : ColRef) (token : Token) → IsParted (flag_column t r token)
flag-parted types.Bool r token = tt
flag-parted t r token = tt

module _ (scope : Scope) (type_of : ColRef → SqlType) where
  comparison-parted : (l : OperandTree) (op : Said) (r : OperandTree) → IsParted (comparison scope type_of l op r)
  comparison-parted l op r = next-parted (side_of scope type_of l) _ (λ a. next-parted (side_of scope type_of r) _ (λ b. sides-parted op a b))

  equal-parted : (c : Col) (w : Token) (ls : List Lit) → AreParted (equal_to scope type_of c w ls)
  equal-parted c w [] = tt
  equal-parted c w (l ∷ ls) =
      then-parted (comparison scope type_of (column c) (standing_for (codes "=") w) (literal l)) (equal_to scope type_of c w ls) (comparison-parted (column c) (standing_for (codes "=") w) (literal l)) (equal-parted c w ls)

  mutual
    expr-parted : (e : Expr) → IsParted (meaning_of_expr scope type_of e)
    expr-parted (either_of c cs) = or-parted (meaning_of_conj scope type_of c) (meaning_of_ors scope type_of cs) (conj-parted c) (ors-parted cs)

    ors-parted : (cs : Ors) → AreParted (meaning_of_ors scope type_of cs)
    ors-parted no_or = tt
    ors-parted (or_conj k c cs) = then-parted (meaning_of_conj scope type_of c) (meaning_of_ors scope type_of cs) (conj-parted c) (ors-parted cs)

    conj-parted : (c : Conj) → IsParted (meaning_of_conj scope type_of c)
    conj-parted (both_of n ns) = and-parted (meaning_of_neg scope type_of n) (meaning_of_ands scope type_of ns) (neg-parted n) (ands-parted ns)

    ands-parted : (ns : Ands) → AreParted (meaning_of_ands scope type_of ns)
    ands-parted no_and = tt
    ands-parted (and_neg k n ns) = then-parted (meaning_of_neg scope type_of n) (meaning_of_ands scope type_of ns) (neg-parted n) (ands-parted ns)

    neg-parted : (n : Neg) → IsParted (meaning_of_neg scope type_of n)
    neg-parted (negated k n) = not-parted (meaning_of_neg scope type_of n) (neg-parted n)
    neg-parted (plain a) = atom-parted a

    atom-parted : (a : Atom) → IsParted (meaning_of_atom scope type_of a)
    atom-parted (parens o e m) = expr-parted e
    atom-parted (compare l op r) = next-parted (side_of scope type_of l) _ (λ a. next-parted (side_of scope type_of r) _ (λ b. sides-parted op a b))
    atom-parted (is_null c i k) = next-parted (column_of scope c) _ (λ r. tt)
    atom-parted (is_not_null c i n k) = next-parted (column_of scope c) _ (λ r. tt)
    atom-parted (in_list u c n w o l ls m) =
        or-negated n (comparison scope type_of (column c) (standing_for (codes "=") w) (literal l)) (equal_to scope type_of c w (literals_after ls))
        (comparison-parted (column c) (standing_for (codes "=") w) (literal l)) (equal-parted c w (literals_after ls))
    atom-parted (between u x n w a j b) =
        let low = standing_for (codes ">=") w in
        let high = standing_for (codes "<=") w in
        and-negated n (comparison scope type_of x low a) (then_parts (comparison scope type_of x high b) (Ok no_conds)) (comparison-parted x low a)
        (then-parted (comparison scope type_of x high b) (Ok no_conds) (comparison-parted x high b) tt)
    atom-parted (column_alone c) = next-parted (column_of scope c) _ (λ r. flag-parted (type_of r) r (place_of_col c))
    atom-parted (constant_alone k t) = tt

  pub meaning-parted : (e : Expr) (c : Cond) → meaning_of_expr scope type_of e ≡ Ok c → HasParts c
  meaning-parted e c is = subst IsParted is (expr-parted e)
