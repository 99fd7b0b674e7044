-- What reading the parts of an expression from the left says: where one stands first, it is read as it means, and what stands
-- behind it is left (own).
use Rattle.std.specs.Prelude.{◌≡◌, ℕ, true, false, List, [], ◌∷◌, ◌++◌, codes, Result, Ok}
use Rattle.pg_base.specs.declared.faults.Refusal.{Refusal}
use Rattle.pg_value.specs.declared.value.SqlType.{SqlType}
use Rattle.pg_expr.specs.declared.expr.Expr.{Expr}
use Rattle.pg_expr.specs.declared.operand.ColRef.{ColRef}
use Rattle.pg_expr.specs.Cond.{Cond, Conds, no_conds}
use Rattle.pg_expr.specs.work.View.{cond}
use Rattle.sql_lex.specs.declared.tokens.Token.{Token}
use Rattle.sql_grammar.specs.declared.class.Symbol.TheVariants.{Close, Open}
use Rattle.sql_grammar.specs.declared.class.Word.TheVariants.{And}
use Rattle.sql_grammar.specs.Terminals.{Terminal, Said, t_key, t_mark}
use Rattle.sql_grammar.specs.Syntax.{Key, Lit, Mark, OperandTree, column, Atom}
use Rattle.sql_grammar.specs.work.Unique.{ends_col, ends_operand, ends_atom, ends_conj, ends_expr, is_parens, front, tail}
use Rattle.sql_grammar.specs.Words.{words_of_bounds, words_of_lit, words_of_col, words_of_operand, words_of_atom, words_of_neg, words_of_conj, words_of_expr}
use Rattle.expr_reader.specs.declared.cursor.Operator.{Operator}
use Rattle.pg_base.specs.declared.faults.Fault.{Fault}
use Rattle.expr_reader.specs.declared.value.Placed.{Placed}
use Rattle.expr_reader.specs.declared.written.Side.{Side as SideRead}
use Rattle.expr_reader.specs.Conditions.{next, BoundSide, of_column, of_literal, or_of, and_of, then_parts, standing_for, literals_after, side_of, column_of, compare_sides, meaning_of_expr, meaning_of_conj, meaning_of_neg, meaning_of_atom}
use Rattle.expr_reader.specs.Literals.{typed_value}
use Rattle.expr_reader.specs.work.Reading.{IfFirst, IfWords, operator_said}
use Rattle.expr_reader.specs.work.Reads.{Reads}
use Rattle.expr_reader.specs.Scope.{Scope}
use Rattle.expr_reader.specs.work.Written.{side_meant, side_read}

-- a literal for a column of this type
abbrev pub ReadsLiteral : SqlType → List Terminal → Result Placed Refusal → List Terminal → Type 0
ReadsLiteral t old read left = IfWords words_of_lit old (λ l rest. Reads (λ x. x.value) (typed_value t l) rest read left)

-- a column
abbrev pub ReadsColumn : Scope → List Terminal → Result ColRef Refusal → List Terminal → Type 0
ReadsColumn scope old read left =
    IfFirst words_of_col ends_col old (λ c rest. Reads (λ x. x) (column_of scope c) rest read left)

-- a column that was read against each of some literals, from the left, by the operator for which IN stands
abbrev pub each_equal : BoundSide → Token → List Lit → Result Conds Fault
each_equal s word [] = Ok no_conds
each_equal s word (l ∷ ls) = then_parts (compare_sides (standing_for (codes "=") word) s (of_literal l)) (each_equal s word ls)

-- the comparison of a column that was read with the literal that stands first, by the operator for which IN stands
abbrev pub ReadsEquality : ColRef → SqlType → Token → Token → List Terminal → Result Expr Refusal → List Terminal → Type 0
ReadsEquality c t first word old read left =
    IfWords words_of_lit old (λ l rest. Reads cond (compare_sides (standing_for (codes "=") word) (of_column c t first) (of_literal l)) rest read left)

-- a list in parentheses stands first
abbrev pub StandsAmong : List Terminal → Type 0
StandsAmong ts =
    (o : Mark) × (l : Lit) × (ls : List (Mark × Lit)) × (m : Mark) × (rest : List Terminal) ×
    (ts ≡ t_mark Open o ∷ (words_of_lit l ++ (words_of_bounds ls ++ t_mark Close m ∷ rest)))

-- the two sides behind BETWEEN stand first, whose left side was read
abbrev pub StandsBetween : SideRead → List Terminal → Type 0
StandsBetween first ts =
    (s : BoundSide) × (a : OperandTree) × (k : Key) × (b : OperandTree) × (rest : List Terminal) × (first ≡ side_read s) × (ends_operand rest ≡ true) ×
    (ts ≡ words_of_operand a ++ t_key And k ∷ (words_of_operand b ++ rest))

-- the list behind IN, whose column and word were read
abbrev pub ReadsAmong : ColRef → SqlType → Token → Token → List Terminal → Result Expr Refusal → List Terminal → Type 0
ReadsAmong c t first word old read left =
    (o : Mark) (l : Lit) (ls : List (Mark × Lit)) (m : Mark) (rest : List Terminal) →
    old ≡ t_mark Open o ∷ (words_of_lit l ++ (words_of_bounds ls ++ t_mark Close m ∷ rest)) →
    Reads cond (next (each_equal (of_column c t first) word (l ∷ literals_after ls)) (λ xs. Ok (or_of xs))) rest read left

module _ (scope : Scope) (type_of : ColRef → SqlType) where
  -- a column as a side of a comparison
  abbrev pub ReadsSide : List Terminal → Result SideRead Refusal → List Terminal → Type 0
  ReadsSide old read left =
      IfFirst words_of_col ends_col old (λ c rest. Reads (λ x. x) (side_meant scope type_of (column c)) rest read left)

  -- a side of a comparison
  abbrev pub ReadsOperand : List Terminal → Result SideRead Refusal → List Terminal → Type 0
  ReadsOperand old read left =
      IfFirst words_of_operand ends_operand old (λ o rest. Reads (λ x. x) (side_meant scope type_of o) rest read left)

  -- the right side of a comparison whose left side and operator were read
  abbrev pub ReadsComparison : SideRead → Operator → List Terminal → Result Expr Refusal → List Terminal → Type 0
  ReadsComparison first operator old read left =
      (a : BoundSide) (op : Said) (o : OperandTree) (rest : List Terminal) → first ≡ side_read a → operator ≡ operator_said op →
      ends_operand rest ≡ true →
      old ≡ words_of_operand o ++ rest → Reads cond (next (side_of scope type_of o) (λ b. compare_sides op a b)) rest read left

  -- a side that was read against an operand, by the operator for which a word stands
  abbrev pub against : BoundSide → List ℕ → Token → OperandTree → Result Cond Fault
  against s operator word o = next (side_of scope type_of o) (λ b. compare_sides (standing_for operator word) s b)

  -- the two sides behind BETWEEN, whose left side and word were read
  abbrev pub ReadsBetween : SideRead → Token → List Terminal → Result Expr Refusal → List Terminal → Type 0
  ReadsBetween first word old read left =
      (s : BoundSide) (a b : OperandTree) (k : Key) (rest : List Terminal) → first ≡ side_read s → ends_operand rest ≡ true →
      old ≡ words_of_operand a ++ t_key And k ∷ (words_of_operand b ++ rest) →
      Reads cond (next (then_parts (against s (codes ">=") word a) (then_parts (against s (codes "<=") word b) (Ok no_conds))) (λ xs. Ok (and_of xs))) rest read left

  -- what follows the operand with which an atom begins, which was read, stands first
  abbrev pub StandsTail : SideRead → List Terminal → Type 0
  StandsTail first ts =
      (a : Atom) × (s : BoundSide) × (rest : List Terminal) × (is_parens a ≡ false) × (ends_atom rest ≡ true) ×
      (side_of scope type_of (front a) ≡ Ok s) ×
      (first ≡ side_read s) × (ts ≡ tail a rest)

  -- what follows the operand with which an atom begins is read so that the atom is
  abbrev pub ReadsTail : SideRead → List Terminal → Result Expr Refusal → List Terminal → Type 0
  ReadsTail first old read left =
      (a : Atom) (s : BoundSide) (rest : List Terminal) → is_parens a ≡ false → ends_atom rest ≡ true →
      side_of scope type_of (front a) ≡ Ok s →
      first ≡ side_read s → old ≡ tail a rest → Reads cond (meaning_of_atom scope type_of a) rest read left

  -- an atom
  abbrev pub ReadsAtom : List Terminal → Result Expr Refusal → List Terminal → Type 0
  ReadsAtom old read left =
      IfFirst words_of_atom ends_atom old (λ a rest. Reads cond (meaning_of_atom scope type_of a) rest read left)

  -- an atom with the NOTs before it
  abbrev pub ReadsNeg : List Terminal → Result Expr Refusal → List Terminal → Type 0
  ReadsNeg old read left =
      IfFirst words_of_neg ends_atom old (λ n rest. Reads cond (meaning_of_neg scope type_of n) rest read left)

  -- an AND
  abbrev pub ReadsConj : List Terminal → Result Expr Refusal → List Terminal → Type 0
  ReadsConj old read left =
      IfFirst words_of_conj ends_conj old (λ c rest. Reads cond (meaning_of_conj scope type_of c) rest read left)

  -- an expression
  abbrev pub ReadsExpr : List Terminal → Result Expr Refusal → List Terminal → Type 0
  ReadsExpr old read left =
      IfFirst words_of_expr ends_expr old (λ e rest. Reads cond (meaning_of_expr scope type_of e) rest read left)
