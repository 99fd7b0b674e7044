-- A literal and a side of a comparison as the reader holds them: a number by its value, where it is below 2^64 - 1 (own).
use Rattle.std.specs.Prelude.{◌≡◌, ◌⊎◌, Bool, true, false, List, ◌∷◌, Result, Ok}
use Rattle.pg_base.specs.declared.faults.Fault.{Fault}
use Rattle.pg_value.specs.declared.value.SqlType.{SqlType}
use Rattle.pg_expr.specs.Cond.{Cond}
use Rattle.pg_expr.specs.declared.operand.ColRef.{ColRef}
use Rattle.sql_lex.specs.declared.tokens.Token.{Token}
use Rattle.sql_grammar.specs.declared.class.Word.TheVariants.{Is, Not, Null}
use Rattle.sql_grammar.specs.Terminals.{Terminal, Said, token_of, t_key}
use Rattle.sql_grammar.specs.Faults.{bytes_of}
use Rattle.sql_grammar.specs.Syntax.{Lit, number, negative, quoted, constant, OperandTree}
use Rattle.expr_reader.specs.work.Reading.{numbered, operator_said}
use Rattle.expr_reader.specs.declared.cursor.Operator.{Operator}
use Rattle.expr_reader.specs.declared.written.Literal.{Literal}
use Rattle.expr_reader.specs.declared.written.Literal.TheVariants.{Whole, Quoted, Constant as ConstantOf}
use Rattle.expr_reader.specs.declared.written.Side.{Side as SideRead}
use Rattle.expr_reader.specs.declared.written.Side.TheVariants.{Column, Literal as LiteralSide, Typed as TypedSide}
use Rattle.expr_reader.specs.Scope.{Scope}
use Rattle.expr_reader.specs.Types.{type_named}
use Rattle.expr_reader.specs.Conditions.{next, BoundSide, of_column, of_literal, of_typed, compare_sides, side_of, truth_of_constant}

-- a whole number with its sign and its first token
abbrev pub whole : Bool → Token → Said → Literal
whole minus token n = Whole minus (numbered n).value token

-- a literal
abbrev pub literal_of : Lit → Literal
literal_of (number n) = whole false n.token n
literal_of (negative minus n) = whole true minus n
literal_of (quoted q) = Quoted (record { bytes = q.value; token = q.token })
literal_of (constant c k) = ConstantOf (truth_of_constant c) k

-- a side of a comparison whose column is found
abbrev pub side_read : BoundSide → SideRead
side_read (of_column c t token) = Column c t token
side_read (of_literal l) = LiteralSide (literal_of l)
side_read (of_typed n q) = TypedSide (type_named (bytes_of n)) (token_of n) q.value

-- the side that an operand means, or the fault of its column
abbrev pub side_meant : Scope → (ColRef → SqlType) → OperandTree → Result SideRead Fault
side_meant scope type_of o = next (side_of scope type_of o) (λ s. Ok (side_read s))

-- what the comparison of two sides by an operator, as they are read, means, or its fault
abbrev pub IsComparison : Operator → SideRead → SideRead → Result Cond Fault → Type 0
IsComparison operator left right meant =
    (o : Said) (a b : BoundSide) → operator ≡ operator_said o → left ≡ side_read a → right ≡ side_read b → meant ≡ compare_sides o a b

-- NULL or NOT NULL is next
abbrev pub IsNullWords : List Terminal → Type 0
IsNullWords ts = ((null : Token) × (rest : List Terminal) × (ts ≡ t_key Null null ∷ rest)) ⊎ ((not : Token) × (null : Token) × (rest : List Terminal) × (ts ≡ t_key Not not ∷ t_key Null null ∷ rest))

-- where NULL is next, what it means is read, and what stands behind it is left
abbrev pub ReadsNull : {A : Type 0} → A → List Terminal → A → List Terminal → Type 0
ReadsNull meant old read left =
    (null : Token) (rest : List Terminal) → old ≡ t_key Null null ∷ rest → (read ≡ meant) × (left ≡ rest)

-- where NOT NULL is next, what it means is read, and what stands behind it is left
abbrev pub ReadsNotNull : {A : Type 0} → A → List Terminal → A → List Terminal → Type 0
ReadsNotNull meant old read left =
    (not null : Token) (rest : List Terminal) → old ≡ t_key Not not ∷ t_key Null null ∷ rest → (read ≡ meant) × (left ≡ rest)

-- where IS NULL is next, what it means is read, and what stands behind it is left
abbrev pub ReadsIsNull : {A : Type 0} → A → List Terminal → A → List Terminal → Type 0
ReadsIsNull meant old read left =
    (is null : Token) (rest : List Terminal) → old ≡ t_key Is is ∷ t_key Null null ∷ rest → (read ≡ meant) × (left ≡ rest)

-- where IS NOT NULL is next, what it means is read, and what stands behind it is left
abbrev pub ReadsIsNotNull : {A : Type 0} → A → List Terminal → A → List Terminal → Type 0
ReadsIsNotNull meant old read left =
    (is not null : Token) (rest : List Terminal) → old ≡ t_key Is is ∷ t_key Not not ∷ t_key Null null ∷ rest →
    (read ≡ meant) × (left ≡ rest)
