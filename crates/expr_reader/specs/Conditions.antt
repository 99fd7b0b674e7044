-- What a condition means over the visible columns and their types, or its first fault: from the left, and within a comparison
-- its columns first, then its literals, then its operator; IN and BETWEEN are the comparisons that they stand for, one after
-- the other (PostgreSQL manual, chapter Type Conversion, Operators; codes: appendix Error Codes).
use Rattle.std.specs.Prelude.{ℕ, Bool, List, [], ◌∷◌, codes, Option, Some, None, Result, Ok, Err, cond}
use Rattle.pg_base.specs.declared.faults.Code.TheVariants.{S2, S3, S4, S9, S10}
use Rattle.pg_base.specs.declared.faults.Fault.{Fault}
use Rattle.pg_value.specs.declared.operators.Op.{Op}
use Rattle.pg_value.specs.declared.operators.Truth.{Truth}
use Rattle.pg_value.specs.declared.operators.Truth.TheVariants as truths
use Rattle.pg_value.specs.declared.value.SqlType.{SqlType}
use Rattle.pg_value.specs.declared.value.SqlType.TheVariants as types
use Rattle.opfamily.specs.Answers.{does_exist}
use Rattle.pg_expr.specs.declared.operand.ColRef.{ColRef}
use Rattle.pg_expr.specs.declared.operand.Operand.{Operand}
use Rattle.pg_expr.specs.declared.operand.Operand.TheVariants.{Col as col_operand, Lit as lit_operand}
use Rattle.pg_expr.specs.Cond.{Cond, compare as compared, is_null as null_test, is_not_null as not_null_test, bool_col, const, all_of, any_of, negation, Conds, no_conds, cond_and}
use Rattle.sql_lex.specs.declared.tokens.Token.{Token}
use Rattle.sql_grammar.specs.Terminals.{Ident, Said, token_of}
use Rattle.sql_grammar.specs.Faults.{bytes_of, fault_at}
use Rattle.sql_grammar.specs.Syntax.{Mark, Col, bare, qualified, Constant, yes, no, unknown, Lit, number, negative, OperandTree, column, literal, typed, Expr, either_of, Ors, no_or, or_conj, Conj, both_of, Ands, no_and, and_neg, Negated, no_not, not_before, Neg, negated, plain, Atom, parens, compare, is_null, is_not_null, in_list, between, column_alone, constant_alone}
use Rattle.expr_reader.specs.Operators.{operator_of}
use Rattle.expr_reader.specs.declared.found.Found.{Found}
use Rattle.expr_reader.specs.declared.found.Found.TheVariants.{One, NoTable, NoColumn, Many}
use Rattle.expr_reader.specs.Scope.{Scope, look_up}
use Rattle.expr_reader.specs.Literals.{type_of_lit, number_type, literal_value, named_value}
use Rattle.expr_reader.specs.Types.{type_named}

-- a step and then the next, or the first fault
abbrev pub next : {A B : Type 0} → Result A Fault → (A → Result B Fault) → Result B Fault
next (Ok x) more = more x
next (Err fault) more = Err fault

-- the column that was found, or its fault: where the qualifier is unknown, at the qualifier, and else at the name
abbrev pub the_column : Found → Token → Token → Result ColRef Fault
the_column (One c) qualifier name = Ok c
the_column NoTable qualifier name = Err (fault_at S2 qualifier)
the_column NoColumn qualifier name = Err (fault_at S3 name)
the_column Many qualifier name = Err (fault_at S4 name)

-- the column that is named
abbrev pub column_of : Scope → Col → Result ColRef Fault
column_of scope (bare n) = the_column (look_up scope None (bytes_of n)) (token_of n) (token_of n)
column_of scope (qualified q _ n) = the_column (look_up scope (Some (bytes_of q)) (bytes_of n)) (token_of q) (token_of n)

-- its first token
abbrev pub place_of_col : Col → Token
place_of_col (bare n) = token_of n
place_of_col (qualified q _ n) = token_of q

-- a side of a comparison whose column is found: the column, its type and its first token, a literal, or a type's name and a
-- quoted text
pub data BoundSide : Type 0 where
  of_column : ColRef → SqlType → Token → BoundSide
  of_literal : Lit → BoundSide
  of_typed : Ident → Said → BoundSide

-- its own type, where it has one
abbrev pub own_type : BoundSide → Option SqlType
own_type (of_column c t _) = Some t
own_type (of_literal l) = type_of_lit l
own_type (of_typed n q) = type_named (bytes_of n)

-- a type, where there is one, else another
abbrev pub type_or : SqlType → Option SqlType → SqlType
type_or t None = t
type_or t (Some own) = own

-- the type of a side beside another one with this type by itself, or with none: its own, else the other's, else text; a whole
-- number has the type that it has beside the other's
abbrev pub type_beside : BoundSide → Option SqlType → SqlType
type_beside (of_literal (number n)) other = number_type (type_or types.Text other)
type_beside (of_literal (negative minus n)) other = number_type (type_or types.Text other)
type_beside side other = type_or (type_or types.Text other) (own_type side)

-- what a side of a comparison stands for, where it has a type
abbrev pub operand_of : SqlType → BoundSide → Result Operand Fault
operand_of t (of_column c _ _) = Ok (col_operand c)
operand_of t (of_literal l) = next (literal_value t l) (λ v. Ok (lit_operand v))
operand_of t (of_typed n q) = next (named_value (token_of n) (type_named (bytes_of n)) q.value) (λ v. Ok (lit_operand v))

-- the operator over two types, or the fault at its token where there is none
abbrev pub operated : Option Op → Token → SqlType → SqlType → Operand → Operand → Result Cond Fault
operated None token t u x y = Err (fault_at S9 token)
operated (Some op) token t u x y = cond (does_exist op t u) (Ok (compared op x y)) (Err (fault_at S9 token))

-- two sides of two types by an operator: the literals from the left, then the operator
abbrev pub compare_as : Said → SqlType → SqlType → BoundSide → BoundSide → Result Cond Fault
compare_as op t u a b = next (operand_of t a) (λ x. next (operand_of u b) (λ y. operated (operator_of op.value) op.token t u x y))

-- two sides by an operator, each of its type beside the other
abbrev pub compare_sides : Said → BoundSide → BoundSide → Result Cond Fault
compare_sides op a b = compare_as op (type_beside a (own_type b)) (type_beside b (own_type a)) a b

-- a column that is a condition by itself is bool, or the fault is at its first token
abbrev pub flag_column : SqlType → ColRef → Token → Result Cond Fault
flag_column types.Bool c token = Ok (bool_col c)
flag_column _ c token = Err (fault_at S10 token)

-- the truth of a constant that is a condition by itself: NULL is unknown (PostgreSQL manual, chapter Data Types, Boolean Type)
abbrev pub truth_of_constant : Constant → Truth
truth_of_constant yes = truths.True
truth_of_constant no = truths.False
truth_of_constant unknown = truths.Unknown

-- a part and then further ones
abbrev pub then_parts : Result Cond Fault → Result Conds Fault → Result Conds Fault
then_parts part parts = next part (λ x. next parts (λ xs. Ok (cond_and x xs)))

-- the OR of parts; that of one part is the part
abbrev pub or_of : Conds → Cond
or_of no_conds = any_of no_conds
or_of (cond_and c no_conds) = c
or_of (cond_and c (cond_and d ds)) = any_of (cond_and c (cond_and d ds))

-- the AND of parts; that of one part is the part
abbrev pub and_of : Conds → Cond
and_of no_conds = all_of no_conds
and_of (cond_and c no_conds) = c
and_of (cond_and c (cond_and d ds)) = all_of (cond_and c (cond_and d ds))

-- an operator that is not written: where there is none, the fault is at the word that stands for it
abbrev pub standing_for : List ℕ → Token → Said
standing_for operator word = record { value = operator; token = word }

-- a condition behind NOT, where that is written
abbrev pub negated_by : Negated → Cond → Cond
negated_by no_not c = c
negated_by (not_before _) c = negation c

-- the literals behind the first of a list
abbrev pub literals_after : List (Mark × Lit) → List Lit
literals_after [] = []
literals_after ((_, l) ∷ ls) = l ∷ literals_after ls

module _ (scope : Scope) (type_of : ColRef → SqlType) where
  -- a side, or the fault of its column
  abbrev pub side_of : OperandTree → Result BoundSide Fault
  side_of (column c) = next (column_of scope c) (λ r. Ok (of_column r (type_of r) (place_of_col c)))
  side_of (literal l) = Ok (of_literal l)
  side_of (typed n q) = Ok (of_typed n q)

  -- a comparison: its columns from the left, then the rest
  abbrev pub comparison : OperandTree → Said → OperandTree → Result Cond Fault
  comparison l op r = next (side_of l) (λ a. next (side_of r) (λ b. compare_sides op a b))

  -- the conditions that a column is equal to each of some literals, from the left
  abbrev pub equal_to : Col → Token → List Lit → Result Conds Fault
  equal_to c word [] = Ok no_conds
  equal_to c word (l ∷ ls) = then_parts (comparison (column c) (standing_for (codes "=") word) (literal l)) (equal_to c word ls)

  -- the conditions that an operand is not below one and not above another
  abbrev pub bounded_by : OperandTree → Token → OperandTree → OperandTree → Result Conds Fault
  bounded_by x word a b =
      then_parts (comparison x (standing_for (codes ">=") word) a)
      (then_parts (comparison x (standing_for (codes "<=") word) b) (Ok no_conds))

  -- conditions, each with the parts of its tree in order; parentheses add nothing
  abbrev mutual
    pub meaning_of_expr : Expr → Result Cond Fault
    meaning_of_expr (either_of c cs) = next (then_parts (meaning_of_conj c) (meaning_of_ors cs)) (λ xs. Ok (or_of xs))

    pub meaning_of_ors : Ors → Result Conds Fault
    meaning_of_ors no_or = Ok no_conds
    meaning_of_ors (or_conj _ c cs) = then_parts (meaning_of_conj c) (meaning_of_ors cs)

    pub meaning_of_conj : Conj → Result Cond Fault
    meaning_of_conj (both_of n ns) = next (then_parts (meaning_of_neg n) (meaning_of_ands ns)) (λ xs. Ok (and_of xs))

    pub meaning_of_ands : Ands → Result Conds Fault
    meaning_of_ands no_and = Ok no_conds
    meaning_of_ands (and_neg _ n ns) = then_parts (meaning_of_neg n) (meaning_of_ands ns)

    pub meaning_of_neg : Neg → Result Cond Fault
    meaning_of_neg (negated _ n) = next (meaning_of_neg n) (λ x. Ok (negation x))
    meaning_of_neg (plain a) = meaning_of_atom a

    pub meaning_of_atom : Atom → Result Cond Fault
    meaning_of_atom (parens _ e _) = meaning_of_expr e
    meaning_of_atom (compare l op r) = comparison l op r
    meaning_of_atom (is_null c _ _) = next (column_of scope c) (λ r. Ok (null_test r))
    meaning_of_atom (is_not_null c _ _ _) = next (column_of scope c) (λ r. Ok (not_null_test r))
    meaning_of_atom (in_list _ c n w _ l ls _) = next (equal_to c w (l ∷ literals_after ls)) (λ xs. Ok (negated_by n (or_of xs)))
    meaning_of_atom (between _ x n w a _ b) = next (bounded_by x w a b) (λ xs. Ok (negated_by n (and_of xs)))
    meaning_of_atom (column_alone c) = next (column_of scope c) (λ r. flag_column (type_of r) r (place_of_col c))
    meaning_of_atom (constant_alone k _) = Ok (const (truth_of_constant k))
