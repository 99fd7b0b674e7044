-- A fault of names, literals and limits is in no record of data.
use Rattle.std.proofs.Common.{◌≡◌, ℕ, Bool, true, false, codes, cond, List, [], ◌∷◌, Option, Some, None, Ok, Err, Result, refl, ap, arith}
use Rattle.pg_base.specs.declared.faults.Code.{Code}
use Rattle.pg_base.specs.declared.faults.Code.TheVariants.{S2, S3, S10}
use Rattle.pg_base.specs.declared.faults.Fault.{Fault}
use Rattle.pg_base.specs.declared.numbers.TableNo.{TableNo}
use Rattle.pg_value.specs.declared.fields.FieldFault.{FieldFault}
use Rattle.pg_value.specs.declared.fields.FieldFault.TheVariants as fields
use Rattle.pg_value.specs.declared.operators.Op.{Op}
use Rattle.pg_value.specs.declared.value.SqlType.{SqlType}
use Rattle.pg_value.specs.declared.value.SqlType.TheVariants as types
use Rattle.pg_value.specs.declared.value.Value.{Value}
use Rattle.pg_value.specs.Fields.{field_value, whole_value}
use Rattle.pg_value.specs.Types.{takes_whole}
use Rattle.opfamily.specs.Answers.{does_exist}
use Rattle.pg_expr.specs.declared.operand.ColRef.{ColRef}
use Rattle.pg_expr.specs.declared.operand.Operand.{Operand as Bound}
use Rattle.pg_expr.specs.Cond.{Cond, Conds, compare as compared, no_conds}
use Rattle.catalog.specs.Contents.{Contents}
use Rattle.catalog.specs.Tables.{column_named, table_named}
use Rattle.sql_lex.specs.declared.tokens.Token.{Token}
use Rattle.sql_grammar.specs.Terminals.{Ident, Said, token_of}
use Rattle.sql_grammar.specs.Faults.{Production, IsFirstFault, bytes_of, fault_at}
use Rattle.sql_grammar.specs.Syntax.{Col, bare, qualified, yes, no, unknown, Lit, number, negative, quoted, constant, OperandTree, column, literal, typed, Expr, either_of, Ors, no_or, or_conj, Conj, both_of, Ands, no_and, and_neg, Neg, negated, plain, Atom, parens, compare, is_null, is_not_null, in_list, between, column_alone, constant_alone}
use Rattle.expr_reader.specs.Lists.{before_all, bound_each}
use Rattle.expr_reader.specs.Operators.{operator_of}
use Rattle.expr_reader.specs.declared.found.Found.{Found}
use Rattle.expr_reader.specs.declared.found.Found.TheVariants.{One, NoTable, NoColumn, Many}
use Rattle.expr_reader.specs.Scope.{Scope, look_up}
use Rattle.expr_reader.specs.Literals.{literal_value, named_value, number_type, flag_as, typed_value, value_or_fault, written}
use Rattle.expr_reader.specs.Types.{type_named}
use Rattle.expr_reader.specs.Conditions.{next, the_column, column_of, place_of_col, BoundSide, of_column, of_literal, of_typed, own_type, type_beside, operand_of, operated, compare_as, flag_column, then_parts, comparison, standing_for, literals_after, equal_to, bounded_by, side_of, meaning_of_expr, meaning_of_ors, meaning_of_conj, meaning_of_ands, meaning_of_neg, meaning_of_atom}
use Rattle.ddl_reader.specs.Statistics.{known, table_of_name, column_of_name}
use Rattle.reply_text.specs.Tells.{IsFieldOf}

-- a fault is in no record
abbrev pub IsPlain : {A : Type 0} → Result A Fault → Type 0
IsPlain (Ok x) = Unit {0}
IsPlain (Err f) = f.rec ≡ 0

pub next-plain : {A B : Type 0} (r : Result A Fault) (more : A → Result B Fault) → IsPlain r → ((x : A) → IsPlain (more x)) → IsPlain (next r more)
next-plain (Ok x) more h k = k x
next-plain (Err f) more h k = h

pub first-plain : (Of : Production) (text : List ℕ) (tokens : List Token) (f : Fault) → IsFirstFault Of text tokens f → f.rec ≡ 0
first-plain Of text tokens f first = ap (λ (x : Fault). x.rec) first.place

-- a fault that is in no record is in no field
pub plain-field : (c : Contents) (f : Fault) → f.rec ≡ 0 → IsFieldOf c f
plain-field c f none = λ field some. absurd (omega (arith, none, some))

-- parts that are bound from the left
before-plain : {B : Type 0} (r : Result B Fault) (rs : Result (List B) Fault) → IsPlain r → IsPlain rs → IsPlain (before_all r rs)
before-plain (Err f) rs one more = one
before-plain (Ok b) (Err f) one more = more
before-plain (Ok b) (Ok bs) one more = tt

pub each-plain : {A B : Type 0} (bind : A → Result B Fault) (xs : List A) → ((x : A) → IsPlain (bind x)) → IsPlain (bound_each bind xs)
each-plain bind [] h = tt
each-plain bind (x ∷ xs) h = before-plain (bind x) (bound_each bind xs) (h x) (each-plain bind xs h)

-- names of what the catalogue has
pub known-plain : {A : Type 0} (code : Code) (token : Token) (o : Option A) → IsPlain (known code token o)
known-plain code token None = refl
known-plain code token (Some x) = tt

pub table-name-plain : (cat : Contents) (n : Ident) → IsPlain (table_of_name cat n)
table-name-plain cat n = known-plain S2 (token_of n) (table_named cat (bytes_of n))

pub column-name-plain : (cat : Contents) (t : TableNo) (n : Ident) → IsPlain (column_of_name cat t n)
column-name-plain cat t n = known-plain S3 (token_of n) (column_named cat t (bytes_of n))

-- literals
value-plain : (token : Token) (r : Result Value FieldFault) → IsPlain (value_or_fault token r)
value-plain token (Ok v) = tt
value-plain token (Err fields.Range) = refl
value-plain token (Err fields.Invalid) = refl
value-plain token (Err fields.Memory) = refl

literal-plain : (t : SqlType) (l : Lit) → IsPlain (literal_value t l)
literal-plain t (number n) = value-plain n.token (whole_value (number_type t) (written false n))
literal-plain t (negative minus n) = value-plain minus (whole_value (number_type t) (written true n))
literal-plain t (quoted q) = value-plain q.token (field_value t q.value)
literal-plain t (constant yes k) = tt
literal-plain t (constant no k) = tt
literal-plain t (constant unknown k) = tt

flag-plain : (t : SqlType) (token : Token) (b : Bool) → IsPlain (flag_as t token b)
flag-plain types.Bool token b = tt
flag-plain t token b = refl

number-plain : (whole : Bool) (t : SqlType) (token : Token) (minus : Bool) (n : Said) → IsPlain (cond whole (value_or_fault token (whole_value t (written minus n))) (Err (fault_at S10 token)))
number-plain true t token minus n = value-plain token (whole_value t (written minus n))
number-plain false t token minus n = refl

pub typed-plain : (t : SqlType) (l : Lit) → IsPlain (typed_value t l)
typed-plain t (number n) = number-plain (takes_whole t) t n.token false n
typed-plain t (negative minus n) = number-plain (takes_whole t) t minus true n
typed-plain t (quoted q) = value-plain q.token (field_value t q.value)
typed-plain t (constant yes k) = flag-plain t k true
typed-plain t (constant no k) = flag-plain t k false
typed-plain t (constant unknown k) = refl

named-plain : (token : Token) (t : Option SqlType) (text : List ℕ) → IsPlain (named_value token t text)
named-plain token None text = refl
named-plain token (Some t) text = value-plain token (field_value t text)

-- columns
pub found-plain : (found : Found) (qualifier name : Token) → IsPlain (the_column found qualifier name)
found-plain (One c) qualifier name = tt
found-plain NoTable qualifier name = refl
found-plain NoColumn qualifier name = refl
found-plain Many qualifier name = refl

pub column-plain : (scope : Scope) (c : Col) → IsPlain (column_of scope c)
column-plain scope (bare n) = found-plain (look_up scope None (bytes_of n)) (token_of n) (token_of n)
column-plain scope (qualified q m n) = found-plain (look_up scope (Some (bytes_of q)) (bytes_of n)) (token_of q) (token_of n)

-- comparisons
operand-plain : (t : SqlType) (s : BoundSide) → IsPlain (operand_of t s)
operand-plain t (of_column c u token) = tt
operand-plain t (of_literal l) = next-plain (literal_value t l) _ (literal-plain t l) (λ v. tt)
operand-plain t (of_typed n q) = next-plain (named_value (token_of n) (type_named (bytes_of n)) q.value) _ (named-plain (token_of n) (type_named (bytes_of n)) q.value) (λ v. tt)

exists-plain : (b : Bool) (x : Cond) (token : Token) (code : Code) → IsPlain (cond b (Ok x) (Err (fault_at code token)))
exists-plain true x token code = tt
exists-plain false x token code = refl

operated-plain : (o : Option Op) (token : Token) (t u : SqlType) (x y : Bound) → IsPlain (operated o token t u x y)
operated-plain None token t u x y = refl
operated-plain (Some op) token t u x y = exists-plain (does_exist op t u) (compared op x y) token _

sides-plain : (op : Said) (t u : SqlType) (a b : BoundSide) → IsPlain (compare_as op t u a b)
sides-plain op t u a b =
    next-plain (operand_of t a) _ (operand-plain t a) (λ x. next-plain (operand_of u b) _ (operand-plain u b) (λ y. operated-plain (operator_of op.value) op.token t u x y))

alone-plain : (t : SqlType) (c : ColRef) (token : Token) → IsPlain (flag_column t c token)
alone-plain types.Bool c token = tt
alone-plain t c token = refl

parts-plain : (part : Result Cond Fault) (parts : Result Conds Fault) → IsPlain part → IsPlain parts → IsPlain (then_parts part parts)
parts-plain part parts p q = next-plain part _ p (λ x. next-plain parts _ q (λ xs. tt))

-- conditions
module _ (scope : Scope) (type_of : ColRef → SqlType) where
  side-plain : (o : OperandTree) → IsPlain (side_of scope type_of o)
  side-plain (column c) = next-plain (column_of scope c) _ (column-plain scope c) (λ r. tt)
  side-plain (literal l) = tt
  side-plain (typed n q) = tt

  comparison-plain : (l : OperandTree) (op : Said) (r : OperandTree) → IsPlain (comparison scope type_of l op r)
  comparison-plain l op r =
      next-plain (side_of scope type_of l) _ (side-plain l) (λ a. next-plain (side_of scope type_of r) _ (side-plain r) (λ b. sides-plain op (type_beside a (own_type b)) (type_beside b (own_type a)) a b))

  equals-plain : (c : Col) (w : Token) (ls : List Lit) → IsPlain (equal_to scope type_of c w ls)
  equals-plain c w [] = tt
  equals-plain c w (l ∷ ls) = parts-plain _ (equal_to scope type_of c w ls) (comparison-plain (column c) (standing_for (codes "=") w) (literal l)) (equals-plain c w ls)

  bounds-plain : (l : OperandTree) (w : Token) (a b : OperandTree) → IsPlain (bounded_by scope type_of l w a b)
  bounds-plain l w a b =
      parts-plain _ _ (comparison-plain l (standing_for (codes ">=") w) a) (parts-plain _ (Ok no_conds) (comparison-plain l (standing_for (codes "<=") w) b) tt)

  mutual
    pub expr-plain : (e : Expr) → IsPlain (meaning_of_expr scope type_of e)
    expr-plain (either_of c cs) = next-plain (then_parts (meaning_of_conj scope type_of c) (meaning_of_ors scope type_of cs)) _ (parts-plain _ _ (conj-plain c) (ors-plain cs)) (λ xs. tt)

    ors-plain : (cs : Ors) → IsPlain (meaning_of_ors scope type_of cs)
    ors-plain no_or = tt
    ors-plain (or_conj k c cs) = parts-plain (meaning_of_conj scope type_of c) (meaning_of_ors scope type_of cs) (conj-plain c) (ors-plain cs)

    conj-plain : (c : Conj) → IsPlain (meaning_of_conj scope type_of c)
    conj-plain (both_of n ns) = next-plain (then_parts (meaning_of_neg scope type_of n) (meaning_of_ands scope type_of ns)) _ (parts-plain _ _ (neg-plain n) (ands-plain ns)) (λ xs. tt)

    ands-plain : (ns : Ands) → IsPlain (meaning_of_ands scope type_of ns)
    ands-plain no_and = tt
    ands-plain (and_neg k n ns) = parts-plain (meaning_of_neg scope type_of n) (meaning_of_ands scope type_of ns) (neg-plain n) (ands-plain ns)

    neg-plain : (n : Neg) → IsPlain (meaning_of_neg scope type_of n)
    neg-plain (negated k n) = next-plain (meaning_of_neg scope type_of n) _ (neg-plain n) (λ x. tt)
    neg-plain (plain a) = atom-plain a

    atom-plain : (a : Atom) → IsPlain (meaning_of_atom scope type_of a)
    atom-plain (parens m e n) = expr-plain e
    atom-plain (compare l op r) = comparison-plain l op r
    atom-plain (in_list u c n w o l ls m) = next-plain (equal_to scope type_of c w (l ∷ literals_after ls)) _ (equals-plain c w (l ∷ literals_after ls)) (λ xs. tt)
    atom-plain (between u l n w a k b) = next-plain (bounded_by scope type_of l w a b) _ (bounds-plain l w a b) (λ xs. tt)
    atom-plain (is_null c i n) = next-plain (column_of scope c) _ (column-plain scope c) (λ r. tt)
    atom-plain (is_not_null c i k n) = next-plain (column_of scope c) _ (column-plain scope c) (λ r. tt)
    atom-plain (column_alone c) = next-plain (column_of scope c) _ (column-plain scope c) (λ r. alone-plain (type_of r) r (place_of_col c))
    atom-plain (constant_alone k t) = tt
