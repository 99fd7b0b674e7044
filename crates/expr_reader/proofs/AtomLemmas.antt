-- What the words after an operand tell of the condition that begins with it.
use Rattle.std.proofs.Common.{◌≡◌, ℕ, Bool, true, false, Option, List, [], ◌∷◌, ◌++◌, Result, Ok, Err, inl, inr, refl, sym, ap, ◌∙◌, append_assoc, codes}
use Rattle.pg_base.specs.declared.faults.Fault.{Fault}
use Rattle.pg_value.specs.declared.operators.Truth.{Truth}
use Rattle.pg_value.specs.declared.value.SqlType.{SqlType}
use Rattle.pg_expr.specs.declared.expr.Expr.{Expr}
use Rattle.pg_expr.specs.declared.operand.ColRef.{ColRef}
use Rattle.pg_expr.specs.Cond.{is_null as null_test, is_not_null as not_null_test, const, no_conds}
use Rattle.pg_expr.specs.work.View.{cond}
use Rattle.sql_lex.specs.declared.tokens.Token.{Token}
use Rattle.sql_grammar.specs.declared.class.Word.TheVariants.{And, Is, Not, Null}
use Rattle.sql_grammar.specs.declared.class.Symbol.TheVariants.{Open, Close}
use Rattle.sql_grammar.specs.declared.class.Free.TheVariants.{Between, In}
use Rattle.sql_grammar.specs.Terminals.{Terminal, Said, free, t_name, t_key, t_mark, t_operator}
use Rattle.sql_grammar.specs.Syntax.{Expr as ExprTree, Negated, no_not, not_before, in_list, between, Neg, negated, plain, Col, bare, qualified, yes, no, unknown, Lit, number, negative, quoted, constant, OperandTree, column, literal, typed as named_text, Atom, parens, compare, is_null, is_not_null, column_alone, constant_alone}
use Rattle.sql_grammar.specs.work.Unique.{ends_atom, is_parens, front, tail}
use Rattle.sql_grammar.specs.Words.{words_of_expr, words_of_neg, words_of_atom, words_of_operand, words_of_col, words_of_negated, words_of_lit, words_of_bounds}
use Rattle.sql_grammar.proofs.ExprTrees.{tested}
use Rattle.expr_reader.specs.declared.cursor.Operator.{Operator}
use Rattle.expr_reader.specs.work.Reading.{BeginsNot, BeginsOperator, BeginsNoOperator, operator_said}
use Rattle.expr_reader.specs.declared.written.Literal.{Literal}
use Rattle.expr_reader.specs.declared.written.Literal.TheVariants.{Constant as ConstantOf}
use Rattle.expr_reader.specs.declared.written.Side.TheVariants.{Column, Literal as LiteralSide, Typed as TypedSide}
use Rattle.expr_reader.specs.Conditions.{next, then_parts, comparison, standing_for, negated_by, literals_after, equal_to, or_of, and_of, BoundSide, of_column, of_literal, of_typed, side_of, column_of, place_of_col, compare_sides, flag_column, truth_of_constant, meaning_of_atom}
use Rattle.expr_reader.specs.work.Reads.{seen_as}
use Rattle.expr_reader.specs.Scope.{Scope}
use Rattle.expr_reader.specs.work.Written.{side_read, literal_of, IsNullWords}

-- a comparison, where an operator is next
pub record Comparison (a : Atom) (rest left : List Terminal) (o : Operator) : Type 0 where
  pub lower : OperandTree
  pub said : Said
  pub upper : OperandTree
  pub atom : a ≡ compare lower said upper
  pub operator : o ≡ operator_said said
  pub words : left ≡ words_of_operand upper ++ rest

pub comparison-next : (a : Atom) (rest old left : List Terminal) (o : Operator) → is_parens a ≡ false → ends_atom rest ≡ true → BeginsOperator o old left → old ≡ tail a rest → Comparison a rest left o
comparison-next (parens b e c) rest old left o flat ends took is = absurd (cc (flat))
comparison-next (compare l op r) rest old left o flat ends (said, spelled, first) is =
    let same : t_operator said ∷ left ≡ t_operator op ∷ (words_of_operand r ++ rest) = sym first ∙ is in
    let word : said ≡ op = cc (same) in
    record { lower = l; said = op; upper = r; atom = refl; operator = spelled ∙ ap operator_said word; words = cc (same) }
comparison-next (is_null c i k) rest old left o flat ends (said, spelled, first) is = absurd (cc (first, is))
comparison-next (is_not_null c i n k) rest old left o flat ends (said, spelled, first) is = absurd (cc (first, is))
comparison-next (in_list u c no_not w p l ls m) rest old left o flat ends (said, spelled, first) is = absurd (cc (first, is))
comparison-next (between u l no_not w a j b) rest old left o flat ends (said, spelled, first) is = absurd (cc (first, is))
comparison-next (in_list u c (not_before z) w p l ls m) rest old left o flat ends (said, spelled, first) is = absurd (cc (first, is))
comparison-next (between u l (not_before z) w a j b) rest old left o flat ends (said, spelled, first) is = absurd (cc (first, is))
comparison-next (column_alone c) rest old left o flat ends (said, spelled, first) is = absurd (tested ends_atom rest (t_operator said ∷ left) ends refl (sym is ∙ first))
comparison-next (constant_alone c k) rest old left o flat ends (said, spelled, first) is = absurd (tested ends_atom rest (t_operator said ∷ left) ends refl (sym is ∙ first))

-- the words after IS
pub null-words : (a : Atom) (rest old left : List Terminal) (t : Token) → is_parens a ≡ false → ends_atom rest ≡ true → old ≡ tail a rest → old ≡ t_key Is t ∷ left → IsNullWords left
null-words (parens b e c) rest old left t flat ends is took = absurd (cc (flat))
null-words (compare l op r) rest old left t flat ends is took = absurd (cc (is, took))
null-words (is_null c i k) rest old left t flat ends is took = inl (k, rest, cc (is, took))
null-words (is_not_null c i n k) rest old left t flat ends is took = inr (n, k, rest, cc (is, took))
null-words (in_list u c no_not w p l ls m) rest old left t flat ends is took = absurd (cc (is, took))
null-words (between u l no_not w a j b) rest old left t flat ends is took = absurd (cc (is, took))
null-words (in_list u c (not_before z) w p l ls m) rest old left t flat ends is took = absurd (cc (is, took))
null-words (between u l (not_before z) w a j b) rest old left t flat ends is took = absurd (cc (is, took))
null-words (column_alone c) rest old left t flat ends is took = absurd (tested ends_atom rest (t_key Is t ∷ left) ends refl (sym is ∙ took))
null-words (constant_alone c k) rest old left t flat ends is took = absurd (tested ends_atom rest (t_key Is t ∷ left) ends refl (sym is ∙ took))

no-is : (rest : List Terminal) → ends_atom rest ≡ true → BeginsNot (t_key Is) rest
no-is rest ends left (t, is) = tested ends_atom rest (t_key Is t ∷ left) ends refl is

-- no operand begins with a parenthesis, and no atom with NOT
no-open : (o : OperandTree) (x left : List Terminal) (t : Token) → words_of_operand o ++ x ≡ t_mark Open t ∷ left → ⊥
no-open (column (bare n)) x left t is = absurd (cc (is))
no-open (column (qualified q d n)) x left t is = absurd (cc (is))
no-open (literal (number n)) x left t is = absurd (cc (is))
no-open (literal (negative m n)) x left t is = absurd (cc (is))
no-open (literal (quoted q)) x left t is = absurd (cc (is))
no-open (literal (constant c k)) x left t is = absurd (cc (is))
no-open (named_text n q) x left t is = absurd (cc (is))

no-not-operand : (o : OperandTree) (x left : List Terminal) (t : Token) → words_of_operand o ++ x ≡ t_key Not t ∷ left → ⊥
no-not-operand (column (bare n)) x left t is = absurd (cc (is))
no-not-operand (column (qualified q d n)) x left t is = absurd (cc (is))
no-not-operand (literal (number n)) x left t is = absurd (cc (is))
no-not-operand (literal (negative m n)) x left t is = absurd (cc (is))
no-not-operand (literal (quoted q)) x left t is = absurd (cc (is))
no-not-operand (literal (constant yes k)) x left t is = absurd (cc (is))
no-not-operand (literal (constant no k)) x left t is = absurd (cc (is))
no-not-operand (literal (constant unknown k)) x left t is = absurd (cc (is))
no-not-operand (named_text n q) x left t is = absurd (cc (is))

no-not : (a : Atom) (rest left : List Terminal) (t : Token) → words_of_atom a ++ rest ≡ t_key Not t ∷ left → ⊥
no-not (parens b e d) rest left t is = absurd (cc (is))
no-not (compare l op r) rest left t is = no-not-operand l _ left t (sym (append_assoc (words_of_operand l) (t_operator op ∷ words_of_operand r) rest) ∙ is)
no-not (is_null c i k) rest left t is = no-not-operand (column c) _ left t (sym (append_assoc (words_of_col c) (t_key Is i ∷ t_key Null k ∷ []) rest) ∙ is)
no-not (is_not_null c i n k) rest left t is = no-not-operand (column c) _ left t (sym (append_assoc (words_of_col c) (t_key Is i ∷ t_key Not n ∷ t_key Null k ∷ []) rest) ∙ is)
no-not (in_list u c n w p l ls m) rest left t is = no-not-operand (column c) _ left t (sym (append_assoc (words_of_col c) (words_of_negated n ++ t_name (free In w) ∷ t_mark Open p ∷ (words_of_lit l ++ (words_of_bounds ls ++ t_mark Close m ∷ []))) rest) ∙ is)
no-not (between u l n w a j b) rest left t is = no-not-operand l _ left t (sym (append_assoc (words_of_operand l) (words_of_negated n ++ t_name (free Between w) ∷ (words_of_operand a ++ t_key And j ∷ words_of_operand b)) rest) ∙ is)
no-not (column_alone c) rest left t is = no-not-operand (column c) rest left t is
no-not (constant_alone k d) rest left t is = no-not-operand (literal (constant k d)) rest left t is

-- the words of an expression in parentheses
pub record InParens (a : Atom) (rest left : List Terminal) : Type 0 where
  pub inner : ExprTree
  pub open_at : Token
  pub close_at : Token
  pub atom : a ≡ parens open_at inner close_at
  pub words : left ≡ words_of_expr inner ++ t_mark Close close_at ∷ rest

pub in-parens : (a : Atom) (rest old left : List Terminal) (t : Token) → old ≡ t_mark Open t ∷ left → old ≡ words_of_atom a ++ rest → InParens a rest left
in-parens (parens b e d) rest old left t took is =
    let same : t_mark Open t ∷ left ≡ t_mark Open b ∷ ((words_of_expr e ++ t_mark Close d ∷ []) ++ rest) = sym took ∙ is in
    let words : left ≡ (words_of_expr e ++ t_mark Close d ∷ []) ++ rest = cc (same) in
    record { inner = e; open_at = b; close_at = d; atom = refl; words = words ∙ append_assoc (words_of_expr e) (t_mark Close d ∷ []) rest }
in-parens (compare l op r) rest old left t took is = absurd (no-open l _ left t (sym (append_assoc (words_of_operand l) (t_operator op ∷ words_of_operand r) rest) ∙ (sym is ∙ took)))
in-parens (is_null c i k) rest old left t took is = absurd (no-open (column c) _ left t (sym (append_assoc (words_of_col c) (t_key Is i ∷ t_key Null k ∷ []) rest) ∙ (sym is ∙ took)))
in-parens (is_not_null c i n k) rest old left t took is = absurd (no-open (column c) _ left t (sym (append_assoc (words_of_col c) (t_key Is i ∷ t_key Not n ∷ t_key Null k ∷ []) rest) ∙ (sym is ∙ took)))
in-parens (in_list u c n w p l ls m) rest old left t took is = absurd (no-open (column c) _ left t (sym (append_assoc (words_of_col c) (words_of_negated n ++ t_name (free In w) ∷ t_mark Open p ∷ (words_of_lit l ++ (words_of_bounds ls ++ t_mark Close m ∷ []))) rest) ∙ (sym is ∙ took)))
in-parens (between u l n w a j b) rest old left t took is = absurd (no-open l _ left t (sym (append_assoc (words_of_operand l) (words_of_negated n ++ t_name (free Between w) ∷ (words_of_operand a ++ t_key And j ∷ words_of_operand b)) rest) ∙ (sym is ∙ took)))
in-parens (column_alone c) rest old left t took is = absurd (no-open (column c) rest left t (sym is ∙ took))
in-parens (constant_alone k d) rest old left t took is = absurd (cc (took, is))

pub no-parens : (a : Atom) (rest old : List Terminal) → BeginsNot (t_mark Open) old → old ≡ words_of_atom a ++ rest → is_parens a ≡ false
no-parens (parens b e d) rest old none is = absurd (none _ (b, is))
no-parens (compare l op r) rest old none is = refl
no-parens (is_null c i k) rest old none is = refl
no-parens (is_not_null c i n k) rest old none is = refl
no-parens (in_list u c n w p l ls m) rest old none is = refl
no-parens (between u l n w a j b) rest old none is = refl
no-parens (column_alone c) rest old none is = refl
no-parens (constant_alone k d) rest old none is = refl

-- NOT before a condition
pub record AfterNot (n : Neg) (rest left : List Terminal) : Type 0 where
  pub inner : Neg
  pub not_at : Token
  pub neg : n ≡ negated not_at inner
  pub words : left ≡ words_of_neg inner ++ rest

pub after-not : (n : Neg) (rest old left : List Terminal) (t : Token) → old ≡ t_key Not t ∷ left → old ≡ words_of_neg n ++ rest → AfterNot n rest left
after-not (negated k m) rest old left t took is = record { inner = m; not_at = k; neg = refl; words = cc (took, is) }
after-not (plain a) rest old left t took is = absurd (no-not a rest left t (sym is ∙ took))

pub record NoNot (n : Neg) (rest old : List Terminal) : Type 0 where
  pub atom : Atom
  pub neg : n ≡ plain atom
  pub words : old ≡ words_of_atom atom ++ rest

pub not-absent : (n : Neg) (rest old : List Terminal) → BeginsNot (t_key Not) old → old ≡ words_of_neg n ++ rest → NoNot n rest old
not-absent (negated k m) rest old none is = absurd (none _ (k, is))
not-absent (plain a) rest old none is = record { atom = a; neg = refl; words = is }

-- neither NOT, IN nor BETWEEN is next
pub record NoList (ts : List Terminal) : Type 0 where
  pub negated : BeginsNot (t_key Not) ts
  pub in_list : BeginsNot (λ t. t_name (free In t)) ts
  pub between : BeginsNot (λ t. t_name (free Between t)) ts

-- a literal as a side
abbrev sided : Lit → Result BoundSide Fault
sided l = Ok (of_literal l)

-- NULL is next, where NOT is taken or not there
pub null-next : (old new : List Terminal) (b : Bool) → IsNullWords old → (b ≡ true → (t : Token) × (old ≡ t_key Not t ∷ new)) → (b ≡ false → new ≡ old) → (b ≡ false → BeginsNot (t_key Not) old) → BeginsNot (t_key Null) new → ⊥
null-next old new true (inl (k, rest, is)) took left other none = let (t, first) = took refl in absurd (cc (first, is))
null-next old new true (inr (n, k, rest, is)) took left other none = let (t, first) = took refl in none rest (k, cc (first, is))
null-next old new false (inl (k, rest, is)) took left other none = none rest (k, left refl ∙ is)
null-next old new false (inr (n, k, rest, is)) took left other none = other refl _ (n, is)

module _ (scope : Scope) (type_of : ColRef → SqlType) where
  -- a side that is a column
  pub record IsColumn (col : Col) (c : ColRef) (t : SqlType) (token : Token) : Type 0 where
    pub found : column_of scope col ≡ Ok c
    pub typed : type_of c ≡ t
    pub place : place_of_col col ≡ token

  column-by : (m : Result ColRef Fault) (s : BoundSide) (c : ColRef) (t : SqlType) (p token : Token) → next m (λ r. Ok (of_column r (type_of r) p)) ≡ Ok s → Column c t token ≡ side_read s →
      (m ≡ Ok c) × (type_of c ≡ t) × (p ≡ token)
  column-by (Ok r) (of_column d u q) c t p token is read = let same : of_column r (type_of r) p ≡ of_column d u q = cc (is) in (cc (same, read), cc (same, read), cc (same, read))
  column-by (Ok r) (of_literal l) c t p token is read = absurd (cc (read))
  column-by (Ok r) (of_typed n q) c t p token is read = absurd (cc (read))
  column-by (Err f) s c t p token is read = absurd (cc (is))

  no-literal : (s : BoundSide) (l : Lit) (c : ColRef) (t : SqlType) (token : Token) → sided l ≡ Ok s → Column c t token ≡ side_read s → ⊥
  no-literal (of_column d u q) l c t token is read = absurd (cc (is))
  no-literal (of_literal m) l c t token is read = absurd (cc (read))
  no-literal (of_typed n q) l c t token is read = absurd (cc (read))

  -- a side of which nothing is left to find
  column-side : (col : Col) (s : BoundSide) (c : ColRef) (t : SqlType) (token : Token) → side_of scope type_of (column col) ≡ Ok s → Column c t token ≡ side_read s → IsColumn col c t token
  column-side col s c t token is read = let (found, typed, place) = column-by (column_of scope col) s c t (place_of_col col) token is read in record { found = found; typed = typed; place = place }

  -- what a column's test is, by the words after it
  pub column-atom : (a : Atom) (s : BoundSide) (rest old new : List Terminal) (c : ColRef) (t : SqlType) (token : Token) (r : Result Expr Fault) → is_parens a ≡ false → ends_atom rest ≡ true →
      side_of scope type_of (front a) ≡ Ok s → Column c t token ≡ side_read s → old ≡ tail a rest → BeginsNoOperator old → NoList old →
      ((is null : Token) (left : List Terminal) → old ≡ t_key Is is ∷ t_key Null null ∷ left → (seen_as cond r ≡ Ok (null_test c)) × (new ≡ left)) →
      ((is not null : Token) (left : List Terminal) → old ≡ t_key Is is ∷ t_key Not not ∷ t_key Null null ∷ left → (seen_as cond r ≡ Ok (not_null_test c)) × (new ≡ left)) →
      (BeginsNot (t_key Is) old → (seen_as cond r ≡ flag_column t c token) × (new ≡ old)) →
      (seen_as cond r ≡ meaning_of_atom scope type_of a) × (new ≡ rest)
  column-atom (parens b e d) s rest old new c t token r flat ends side read is none lists null not_null alone = absurd (cc (flat))
  column-atom (compare l op u) s rest old new c t token r flat ends side read is none lists null not_null alone = absurd (none op (words_of_operand u ++ rest) is)
  column-atom (is_null col i k) s rest old new c t token r flat ends side read is none lists null not_null alone =
      let found = column-side col s c t token side read in
      let told = null i k rest is in
      (told.0 ∙ sym (ap (λ m. next m (λ x. Ok (null_test x))) found.found), told.1)
  column-atom (is_not_null col i n k) s rest old new c t token r flat ends side read is none lists null not_null alone =
      let found = column-side col s c t token side read in
      let told = not_null i n k rest is in
      (told.0 ∙ sym (ap (λ m. next m (λ x. Ok (not_null_test x))) found.found), told.1)
  column-atom (in_list u col no_not w p l ls m) s rest old new c t token r flat ends side read is none lists null not_null alone = absurd (lists.in_list _ (w, is))
  column-atom (in_list u col (not_before k) w p l ls m) s rest old new c t token r flat ends side read is none lists null not_null alone = absurd (lists.negated _ (k, is))
  column-atom (between u l no_not w a j b) s rest old new c t token r flat ends side read is none lists null not_null alone = absurd (lists.between _ (w, is))
  column-atom (between u l (not_before k) w a j b) s rest old new c t token r flat ends side read is none lists null not_null alone = absurd (lists.negated _ (k, is))
  column-atom (column_alone col) s rest old new c t token r flat ends side read is none lists null not_null alone =
      let found = column-side col s c t token side read in
      let told = alone (λ left (i, e). no-is rest ends left (i, sym is ∙ e)) in
      (told.0 ∙ sym (ap (λ m. next m (λ x. flag_column (type_of x) x (place_of_col col))) found.found ∙ (ap (λ u. flag_column u c (place_of_col col)) found.typed ∙ ap (λ p. flag_column t c p) found.place)), told.1 ∙ is)
  column-atom (constant_alone k d) s rest old new c t token r flat ends side read is none lists null not_null alone = absurd (no-literal s (constant k d) c t token side read)

  pub no-column : (m : Result ColRef Fault) (s : BoundSide) (p : Token) (l : Literal) → next m (λ r. Ok (of_column r (type_of r) p)) ≡ Ok s → LiteralSide l ≡ side_read s → ⊥
  no-column (Ok r) (of_column d u q) p l is read = absurd (cc (read))
  no-column (Ok r) (of_literal m) p l is read = absurd (cc (is))
  no-column (Ok r) (of_typed n q) p l is read = absurd (cc (is))
  no-column (Err f) s p l is read = absurd (cc (is))

  lit-by : (l : Lit) (x : Literal) (s : BoundSide) → sided l ≡ Ok s → LiteralSide x ≡ side_read s → x ≡ literal_of l
  lit-by l x (of_column d u q) is read = absurd (cc (is))
  lit-by l x (of_typed n q) is read = absurd (cc (is))
  lit-by l x (of_literal m) is read = let same : l ≡ m = cc (is) in let lit : x ≡ literal_of m = cc (read) in lit ∙ sym (ap literal_of same)

  -- TRUE, FALSE or NULL by itself
  pub record IsConstant (a : Atom) (x : Literal) (rest old : List Terminal) : Type 0 where
    pub truth : Truth
    pub token : Token
    pub literal : x ≡ ConstantOf truth token
    pub meant : Ok (const truth) ≡ meaning_of_atom scope type_of a
    pub words : old ≡ rest

  pub constant-atom : (a : Atom) (s : BoundSide) (rest old : List Terminal) (x : Literal) → is_parens a ≡ false →
      side_of scope type_of (front a) ≡ Ok s → LiteralSide x ≡ side_read s → old ≡ tail a rest → BeginsNoOperator old → NoList old → IsConstant a x rest old
  constant-atom (parens b e d) s rest old x flat side read is none lists = absurd (cc (flat))
  constant-atom (compare l op u) s rest old x flat side read is none lists = absurd (none op (words_of_operand u ++ rest) is)
  constant-atom (is_null col i k) s rest old x flat side read is none lists = absurd (no-column (column_of scope col) s (place_of_col col) x side read)
  constant-atom (is_not_null col i n k) s rest old x flat side read is none lists = absurd (no-column (column_of scope col) s (place_of_col col) x side read)
  constant-atom (in_list u col n w p l ls m) s rest old x flat side read is none lists = absurd (no-column (column_of scope col) s (place_of_col col) x side read)
  constant-atom (between u l no_not w a j b) s rest old x flat side read is none lists = absurd (lists.between _ (w, is))
  constant-atom (between u l (not_before k) w a j b) s rest old x flat side read is none lists = absurd (lists.negated _ (k, is))
  constant-atom (column_alone col) s rest old x flat side read is none lists = absurd (no-column (column_of scope col) s (place_of_col col) x side read)
  constant-atom (constant_alone k d) s rest old x flat side read is none lists =
      record { truth = truth_of_constant k; token = d; literal = lit-by (constant k d) x s side read; meant = refl; words = is }

  -- a type's name and a text are no condition by themselves
  pub no-typed-column : (m : Result ColRef Fault) (s : BoundSide) (p : Token) (t : Option SqlType) (token : Token) (text : List ℕ) → next m (λ r. Ok (of_column r (type_of r) p)) ≡ Ok s → TypedSide t token text ≡ side_read s → ⊥
  no-typed-column (Ok r) (of_column d u q) p t token text is read = absurd (cc (read))
  no-typed-column (Ok r) (of_literal m) p t token text is read = absurd (cc (is))
  no-typed-column (Ok r) (of_typed n q) p t token text is read = absurd (cc (is))
  no-typed-column (Err f) s p t token text is read = absurd (cc (is))

  no-typed-literal : (l : Lit) (s : BoundSide) (t : Option SqlType) (token : Token) (text : List ℕ) → sided l ≡ Ok s → TypedSide t token text ≡ side_read s → ⊥
  no-typed-literal l (of_column d u q) t token text is read = absurd (cc (is))
  no-typed-literal l (of_literal m) t token text is read = absurd (cc (read))
  no-typed-literal l (of_typed n q) t token text is read = absurd (cc (is))

  pub no-typed : (a : Atom) (s : BoundSide) (rest old : List Terminal) (t : Option SqlType) (token : Token) (text : List ℕ) → is_parens a ≡ false →
      side_of scope type_of (front a) ≡ Ok s → TypedSide t token text ≡ side_read s → old ≡ tail a rest → BeginsNoOperator old → NoList old → ⊥
  no-typed (parens b e d) s rest old t token text flat side read is none lists = absurd (cc (flat))
  no-typed (compare l op u) s rest old t token text flat side read is none lists = none op (words_of_operand u ++ rest) is
  no-typed (is_null col i k) s rest old t token text flat side read is none lists = no-typed-column (column_of scope col) s (place_of_col col) t token text side read
  no-typed (is_not_null col i n k) s rest old t token text flat side read is none lists = no-typed-column (column_of scope col) s (place_of_col col) t token text side read
  no-typed (in_list u col n w p l ls m) s rest old t token text flat side read is none lists = no-typed-column (column_of scope col) s (place_of_col col) t token text side read
  no-typed (between u l no_not w a j b) s rest old t token text flat side read is none lists = lists.between _ (w, is)
  no-typed (between u l (not_before k) w a j b) s rest old t token text flat side read is none lists = lists.negated _ (k, is)
  no-typed (column_alone col) s rest old t token text flat side read is none lists = no-typed-column (column_of scope col) s (place_of_col col) t token text side read
  no-typed (constant_alone k d) s rest old t token text flat side read is none lists = no-typed-literal (constant k d) s t token text side read

  column-fault : (m : Result ColRef Fault) (f : Fault) (p : Token) → next m (λ r. Ok (of_column r (type_of r) p)) ≡ Err f → m ≡ Err f
  column-fault (Ok r) f p is = absurd (cc (is))
  column-fault (Err g) f p is = cc (is)

  -- the fault of a condition's first operand is its own
  pub front-fault : (a : Atom) (f : Fault) → is_parens a ≡ false → side_of scope type_of (front a) ≡ Err f → meaning_of_atom scope type_of a ≡ Err f
  front-fault (parens b e d) f flat is = absurd (cc (flat))
  front-fault (compare l op r) f flat is = ap (λ m. next m (λ a. next (side_of scope type_of r) (λ b. compare_sides op a b))) is
  front-fault (is_null c i k) f flat is = ap (λ m. next m (λ r. Ok (null_test r))) (column-fault (column_of scope c) f (place_of_col c) is)
  front-fault (is_not_null c i n k) f flat is = ap (λ m. next m (λ r. Ok (not_null_test r))) (column-fault (column_of scope c) f (place_of_col c) is)
  front-fault (in_list u c n w p l ls m) f flat is =
      ap (λ x. next (then_parts (next x (λ a. next (side_of scope type_of (literal l)) (λ b. compare_sides (standing_for (codes "=") w) a b))) (equal_to scope type_of c w (literals_after ls))) (λ xs. Ok (negated_by n (or_of xs)))) is
  front-fault (between u l n w a j b) f flat is =
      ap (λ x. next (then_parts (next x (λ v. next (side_of scope type_of a) (λ y. compare_sides (standing_for (codes ">=") w) v y)))
      (then_parts (comparison scope type_of l (standing_for (codes "<=") w) b) (Ok no_conds))) (λ xs. Ok (negated_by n (and_of xs)))) is
  front-fault (column_alone c) f flat is = ap (λ m. next m (λ r. flag_column (type_of r) r (place_of_col c))) (column-fault (column_of scope c) f (place_of_col c) is)
  front-fault (constant_alone k d) f flat is = absurd (cc (is))
