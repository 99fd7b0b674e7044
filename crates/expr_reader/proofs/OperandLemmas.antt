-- What the next words tell of the operand whose words are left.
use Rattle.std.proofs.Common.{◌≡◌, ℕ, true, List, ◌∷◌, ◌++◌, drop, Result, Ok, Err, None, refl, sym, ap, ◌∙◌}
use Rattle.pg_base.specs.declared.faults.Fault.{Fault}
use Rattle.pg_value.specs.declared.value.SqlType.{SqlType}
use Rattle.pg_expr.specs.declared.operand.ColRef.{ColRef}
use Rattle.sql_lex.specs.declared.tokens.Token.{Token}
use Rattle.sql_grammar.specs.declared.class.Symbol.TheVariants.{Dot}
use Rattle.sql_grammar.specs.Faults.{bytes_of}
use Rattle.sql_grammar.specs.Terminals.{Terminal, Ident, Said, t_mark, t_name, t_quoted, token_of}
use Rattle.sql_grammar.specs.declared.class.Class.TheVariants.{Quoted as ClassQuoted}
use Rattle.sql_grammar.specs.work.Terminals.{class_of}
use Rattle.sql_grammar.specs.Syntax.{Col, bare, qualified, number, negative, quoted, constant, OperandTree, column, literal, typed as named_text}
use Rattle.sql_grammar.specs.work.Unique.{ends_col, ends_operand, token_in}
use Rattle.sql_grammar.specs.Words.{words_of_col, words_of_operand}
use Rattle.sql_grammar.proofs.ExprTrees.{tested}
use Rattle.expr_reader.specs.declared.cursor.Spelled.{Spelled}
use Rattle.expr_reader.specs.Reading.{spelled}
use Rattle.expr_reader.specs.work.Reading.{BeginsName, BeginsNot, BeginsNoQuoted, IsNextClass}
use Rattle.expr_reader.specs.declared.found.Found.{Found}
use Rattle.expr_reader.specs.declared.found.Found.TheVariants.{One, NoTable, NoColumn, Many}
use Rattle.expr_reader.specs.declared.written.Side.{Side}
use Rattle.expr_reader.specs.declared.written.Side.TheVariants.{Column}
use Rattle.expr_reader.specs.Conditions.{next, BoundSide as SideTree, of_column, side_of, the_column, column_of, place_of_col}
use Rattle.expr_reader.specs.Scope.{Scope, look_up}
use Rattle.expr_reader.specs.work.Written.{side_meant, side_read}

-- a name, and no dot after it
pub record BareCol (c : Col) (rest : List Terminal) (s : Spelled) (left : List Terminal) : Type 0 where
  pub name : Ident
  pub col : c ≡ bare name
  pub says : s ≡ spelled name
  pub words : left ≡ rest

pub bare-col : (c : Col) (rest old left : List Terminal) (s : Spelled) → BeginsName s old left → BeginsNot (t_mark Dot) left → old ≡ words_of_col c ++ rest → BareCol c rest s left
bare-col (bare n) rest old left s (m, says, first) absent is =
    let same : t_name m ∷ left ≡ t_name n ∷ rest = sym first ∙ is in
    let name : m ≡ n = cc (same) in
    record { name = n; col = refl; says = says ∙ ap spelled name; words = cc (same) }
bare-col (qualified q d n) rest old left s (m, says, first) absent is =
    let same : t_name m ∷ left ≡ t_name q ∷ t_mark Dot d ∷ t_name n ∷ rest = sym first ∙ is in
    absurd (absent (t_name n ∷ rest) (d, cc (same)))

-- a name and a quoted text behind it are one operand
pub record TypedNext (o : OperandTree) (rest old : List Terminal) : Type 0 where
  pub name : Ident
  pub text : Said
  pub operand : o ≡ named_text name text
  pub words : old ≡ t_name name ∷ t_quoted text ∷ rest

quoted-word : (w : Terminal) → class_of w ≡ ClassQuoted → (q : Said) × (w ≡ t_quoted q)
quoted-word (t_quoted q) is = (q, refl)
quoted-word w is = absurd (cc (is))

quoted-first : (q : Said) (left rest : List Terminal) → rest ≡ t_quoted q ∷ left → ends_operand rest ≡ true → ⊥
quoted-first q left rest is ends = tested ends_operand rest (t_quoted q ∷ left) ends refl is

typed-by : (o : OperandTree) (rest old left : List Terminal) (q : Said) → ends_operand rest ≡ true → old ≡ words_of_operand o ++ rest → drop 1 old ≡ t_quoted q ∷ left → TypedNext o rest old
typed-by (named_text n t) rest old left q ends is behind = record { name = n; text = t; operand = refl; words = is }
typed-by (column (bare n)) rest old left q ends is behind = absurd (quoted-first q left rest (sym (ap (drop 1) is) ∙ behind) ends)
typed-by (column (qualified a d n)) rest old left q ends is behind = let wrong = sym (ap (drop 1) is) ∙ behind in absurd (cc (wrong))
typed-by (literal (number n)) rest old left q ends is behind = absurd (quoted-first q left rest (sym (ap (drop 1) is) ∙ behind) ends)
typed-by (literal (negative m n)) rest old left q ends is behind = let wrong = sym (ap (drop 1) is) ∙ behind in absurd (cc (wrong))
typed-by (literal (quoted t)) rest old left q ends is behind = absurd (quoted-first q left rest (sym (ap (drop 1) is) ∙ behind) ends)
typed-by (literal (constant c k)) rest old left q ends is behind = absurd (quoted-first q left rest (sym (ap (drop 1) is) ∙ behind) ends)

pub typed-next : (o : OperandTree) (rest old : List Terminal) → ends_operand rest ≡ true → old ≡ words_of_operand o ++ rest → IsNextClass ClassQuoted (drop 1 old) → TypedNext o rest old
typed-next o rest old ends is (w, left, class, behind) = let (q, word) = quoted-word w class in typed-by o rest old left q ends is (behind ∙ ap (λ x. x ∷ left) word)

-- a name and no quoted text behind it are a column
pub record ColumnNext (o : OperandTree) (rest old : List Terminal) : Type 0 where
  pub col : Col
  pub operand : o ≡ column col
  pub words : old ≡ words_of_col col ++ rest

pub column-next : (o : OperandTree) (rest old left : List Terminal) (n : Ident) → old ≡ words_of_operand o ++ rest → old ≡ t_name n ∷ left → BeginsNoQuoted (drop 1 old) → ColumnNext o rest old
column-next (column c) rest old left n is first none = record { col = c; operand = refl; words = is }
column-next (named_text m q) rest old left n is first none = absurd (none q.value q.token rest (ap (drop 1) is))
column-next (literal (number m)) rest old left n is first none = absurd (cc (is, first))
column-next (literal (negative d m)) rest old left n is first none = absurd (cc (is, first))
column-next (literal (quoted q)) rest old left n is first none = absurd (cc (is, first))
column-next (literal (constant c k)) rest old left n is first none = absurd (cc (is, first))

pub col-end : (rest : List Terminal) → ends_operand rest ≡ true → ends_col rest ≡ true
col-end (t_mark Dot _ ∷ _) ends = ends
col-end _ ends = refl

-- the column of a bare name
pub bare-column : (scope : Scope) (c : Col) (n : Ident) (s : Spelled) (f : Found) (bytes : List ℕ) → c ≡ bare n → s ≡ spelled n → f ≡ look_up scope None bytes → bytes ≡ s.bytes →
    the_column f s.token s.token ≡ column_of scope c
bare-column scope c n s f bytes is says found value =
    let now : f ≡ look_up scope None (bytes_of n) = found ∙ ap (look_up scope None) (value ∙ ap (λ (x : Spelled). x.bytes) says) in
    ap (λ (x : Spelled). the_column f x.token x.token) says ∙ (ap (λ (x : Found). the_column x (token_of n) (token_of n)) now ∙ ap (column_of scope) (sym is))

-- a column that is given is the one that was found
pub is-found : (f : Found) (first name : Token) (x : ColRef) → the_column f first name ≡ Ok x → f ≡ One x
is-found (One c) first name x is = let same : c ≡ x = cc (is) in ap One same
is-found NoTable first name x is = absurd (cc (is))
is-found NoColumn first name x is = absurd (cc (is))
is-found Many first name x is = absurd (cc (is))

-- the token of a column's first word
pub first-place : (c : Col) (rest old : List Terminal) (t : Token) → old ≡ words_of_col c ++ rest → ((w : Terminal) (left : List Terminal) → old ≡ w ∷ left → t ≡ token_in w) → t ≡ place_of_col c
first-place (bare n) rest old t is told = told (t_name n) rest is
first-place (qualified q d n) rest old t is told = told (t_name q) (t_mark Dot d ∷ t_name n ∷ rest) is

-- a side whose column is given
pub side-told : (scope : Scope) (type_of : ColRef → SqlType) (c : Col) (x : ColRef) (t : SqlType) (first : Token) → column_of scope c ≡ Ok x → t ≡ type_of x → first ≡ place_of_col c → Ok (Column x t first) ≡ side_meant scope type_of (column c)
side-told scope type_of c x t first is typed place =
    ap (λ u. Ok (Column x u first)) typed ∙ (ap (λ p. Ok (Column x (type_of x) p)) place ∙
    sym (ap (λ m. next (next m (λ r. Ok (of_column r (type_of r) (place_of_col c)))) (λ s. Ok (side_read s))) is))

fault-by : {A B : Type 0} (m : Result A Fault) (seen : A → B) (f : Fault) → next m (λ s. Ok (seen s)) ≡ Err f → m ≡ Err f
fault-by (Ok s) seen f is = absurd (cc (is))
fault-by (Err g) seen f is = cc (is)

-- the fault of a side
pub side-fault : (scope : Scope) (type_of : ColRef → SqlType) (o : OperandTree) (f : Fault) → side_meant scope type_of o ≡ Err f → side_of scope type_of o ≡ Err f
side-fault scope type_of o f is = fault-by (side_of scope type_of o) side_read f is

-- a side that is read
pub record FoundSide (scope : Scope) (type_of : ColRef → SqlType) (o : OperandTree) (x : Side) : Type 0 where
  pub side : SideTree
  pub found : side_of scope type_of o ≡ Ok side
  pub read : x ≡ side_read side

side-by : (scope : Scope) (type_of : ColRef → SqlType) (o : OperandTree) (x : Side) (m : Result SideTree Fault) → side_of scope type_of o ≡ m → next m (λ s. Ok (side_read s)) ≡ Ok x → FoundSide scope type_of o x
side-by scope type_of o x (Ok s) of is = record { side = s; found = of; read = cc (is) }
side-by scope type_of o x (Err f) of is = absurd (cc (is))

pub side-found : (scope : Scope) (type_of : ColRef → SqlType) (o : OperandTree) (x : Side) → side_meant scope type_of o ≡ Ok x → FoundSide scope type_of o x
side-found scope type_of o x is = side-by scope type_of o x (side_of scope type_of o) refl is
