-- What a condition means is well typed, and names visible columns alone.
use Rattle.std.proofs.Common.{◌≡◌, ◌+◌, ◌<◌, ℕ, Bool, true, false, not, ◌&&◌, ◌||◌, Option, Some, None, Result, Ok, Err, All, refl, sym, ap, subst, ◌∙◌, cond, is_some, List, [], ◌∷◌, codes, arith}
use Rattle.std.specs.Prelude.{nat_eq}
use Rattle.std.specs.List.{list_any}
use Rattle.std.proofs.lemmas.Bool.{and_parts, true≢false}
use Rattle.std.proofs.lemmas.Bool.Decides.{Decides-eqb}
use Rattle.pg_base.specs.declared.faults.Code.TheVariants.{S9}
use Rattle.pg_base.specs.declared.faults.Fault.{Fault}
use Rattle.pg_value.specs.declared.operators.Family.{Family}
use Rattle.pg_value.specs.declared.operators.Family.TheVariants as families
use Rattle.pg_value.specs.declared.operators.Op.{Op}
use Rattle.pg_value.specs.declared.operators.Op.TheVariants.{Eq, Ne}
use Rattle.pg_value.specs.declared.value.SqlType.{SqlType}
use Rattle.pg_value.specs.declared.value.SqlType.TheVariants as types
use Rattle.pg_value.specs.declared.value.Value.{Value}
use Rattle.pg_value.specs.declared.value.Value.TheVariants as values
use Rattle.pg_value.specs.Truths.{AreComparable, HasOp, IsSameKind, is_absolute}
use Rattle.pg_value.specs.Types.{IsOfType}
use Rattle.opfamily.specs.declared.classes.Method.TheVariants.{Btree}
use Rattle.opfamily.specs.Table.{Row, table}
use Rattle.opfamily.specs.Answers.{does_exist, some_family_has, family_has, takes, number_in, type_scale}
use Rattle.opfamily.proofs.ClassLemmas.{numeric-takes}
use Rattle.opfamily.proofs.TableLemmas.{every_pair, implied}
use Rattle.pg_expr.specs.declared.operand.ColRef.{ColRef}
use Rattle.pg_expr.specs.declared.operand.Operand.{Operand}
use Rattle.pg_expr.specs.declared.operand.Operand.TheVariants.{Col as col_operand, Lit as lit_operand}
use Rattle.pg_expr.specs.Columns.{each_column, each_column_of, passes_column}
use Rattle.pg_expr.specs.Cond.{Cond, compare, is_null as null_test, is_not_null as not_null_test, bool_col, const, negation, Conds, no_conds, cond_and}
use Rattle.pg_expr.specs.Truths.{value_of}
use Rattle.pg_expr.specs.Typed.{some_value, type_kind, AreAlike, IsInteger, IsComparison, IsTyped, AreTyped}
use Rattle.pg_expr.proofs.DefinedLaws.{IsLike, like_type}
use Rattle.sql_lex.specs.declared.tokens.Token.{Token}
use Rattle.sql_grammar.specs.Terminals.{Said, token_of}
use Rattle.sql_grammar.specs.Faults.{bytes_of, fault_at}
use Rattle.sql_grammar.specs.Syntax.{Col, bare, qualified, Lit, OperandTree, column, literal, typed as named_text, Expr, either_of, Ors, no_or, or_conj, Conj, both_of, Ands, no_and, and_neg, Negated, no_not, not_before, Neg, negated, plain, Atom, parens, compare as compareTree, is_null, is_not_null, in_list, between, column_alone, constant_alone}
use Rattle.expr_reader.specs.Operators.{operator_of}
use Rattle.expr_reader.specs.declared.found.Found.{Found}
use Rattle.expr_reader.specs.declared.found.Found.TheVariants.{One, NoTable, NoColumn, Many}
use Rattle.expr_reader.specs.Scope.{Scope, look_up}
use Rattle.expr_reader.specs.Literals.{literal_value, named_value}
use Rattle.expr_reader.specs.Types.{type_named}
use Rattle.expr_reader.specs.Conditions.{next, comparison, standing_for, negated_by, literals_after, equal_to, bounded_by, the_column, column_of, place_of_col, BoundSide, of_column, of_literal, of_typed, own_type, type_or, type_beside, operand_of, operated, compare_sides, flag_column, truth_of_constant, then_parts, or_of, and_of, side_of, meaning_of_expr, meaning_of_ors, meaning_of_conj, meaning_of_ands, meaning_of_neg, meaning_of_atom}
use Rattle.expr_reader.proofs.ScopeLemmas.{found-all}
use Rattle.expr_reader.proofs.ValueLemmas.{literal-typed, named-typed}

-- the kind of a family's types
abbrev family_kind : Family → ℕ
family_kind families.Integer = 0
family_kind families.IntAbs = 0
family_kind families.Text = 1
family_kind families.Bool = 2
family_kind families.Uuid = 3
family_kind families.Date = 4
family_kind families.Timestamp = 5
family_kind families.TimestampTz = 6
family_kind (families.Numeric scale) = 7 + scale

scale-kind : (s digits scale : ℕ) → takes (families.Numeric s) (types.Numeric digits scale) ≡ true → 7 + scale ≡ 7 + s
scale-kind s digits scale is = ap (λ (n : ℕ). 7 + n) (sym ((Decides-eqb s scale).0 (sym (numeric-takes s digits scale) ∙ is)))

takes-kind : (f : Family) (t : SqlType) → takes f t ≡ true → type_kind t ≡ family_kind f
takes-kind families.Integer types.Int2 is = refl
takes-kind families.Integer types.Int4 is = refl
takes-kind families.Integer types.Int8 is = refl
takes-kind families.IntAbs types.Int2 is = refl
takes-kind families.IntAbs types.Int4 is = refl
takes-kind families.IntAbs types.Int8 is = refl
takes-kind families.Text types.Text is = refl
takes-kind families.Bool types.Bool is = refl
takes-kind families.Uuid types.Uuid is = refl
takes-kind families.Date types.Date is = refl
takes-kind families.Timestamp types.Timestamp is = refl
takes-kind families.TimestampTz types.TimestampTz is = refl
takes-kind (families.Numeric s) (types.Numeric digits scale) is = scale-kind s digits scale is
takes-kind f t is = absurd (true≢false (sym is))

-- an operator by absolute value is one of whole numbers
abbrev is_plain_absolute : Family → Op → Bool
is_plain_absolute f op = not (is_some (number_in f Btree op)) || (not (is_absolute op) || nat_eq (family_kind f) 0)

absolute-kind : (f : Family) (op : Op) → is_some (number_in f Btree op) ≡ true → is_absolute op ≡ true → family_kind f ≡ 0
absolute-kind f op some is =
    let all = every_pair is_plain_absolute (λ scale. refl) f op in
    let zero = implied (is_absolute op) (nat_eq (family_kind f) 0) (implied (is_some (number_in f Btree op)) (not (is_absolute op) || nat_eq (family_kind f) 0) all some) is in
    (Decides-eqb (family_kind f) 0).0 zero

-- the types of an operator's sides are of one kind, that of the integer types where it compares absolute values
pub record AreOfOneKind (op : Op) (t u : SqlType) : Type 0 where
  pub same : type_kind t ≡ type_kind u
  pub absolute : is_absolute op ≡ true → type_kind t ≡ 0

family-kinds : (f : Family) (op : Op) (t u : SqlType) → family_has f op t u ≡ true → AreOfOneKind op t u
family-kinds f op t u is =
    let outer = and_parts (takes f t && takes f u) (is_some (number_in f Btree op)) is in
    let inner = and_parts (takes f t) (takes f u) outer.0 in
    let left = takes-kind f t inner.0 in
    record { same = left ∙ sym (takes-kind f u inner.1); absolute = λ abs. left ∙ absolute-kind f op outer.1 abs }

rows-kinds : (op : Op) (t u : SqlType) (rows : List Row) → list_any (λ row. family_has row.family op t u) rows ≡ true → AreOfOneKind op t u
rows-kinds op t u [] is = absurd (true≢false (sym is))
rows-kinds op t u (row ∷ rows) is = by (family_has row.family op t u) refl is (rows-kinds op t u rows)
  where
    by : (b : Bool) → family_has row.family op t u ≡ b → b || list_any (λ row. family_has row.family op t u) rows ≡ true → (list_any (λ row. family_has row.family op t u) rows ≡ true → AreOfOneKind op t u) → AreOfOneKind op t u
    by true has some more = family-kinds row.family op t u has
    by false has some more = more some

some-kinds : (op : Op) (t u : SqlType) → some_family_has op t u ≡ true → AreOfOneKind op t u
some-kinds op t u is = rows-kinds op t u (table (type_scale t)) is

no-abs : (op : Op) (t u : SqlType) → AreOfOneKind Eq t u → is_absolute op ≡ false → AreOfOneKind op t u
no-abs op t u k relative = record { same = k.same; absolute = λ abs. absurd (cc (abs, relative)) }

pub exist-kinds : (op : Op) (t u : SqlType) → does_exist op t u ≡ true → AreOfOneKind op t u
exist-kinds Ne t u is = no-abs Ne t u (some-kinds Eq t u is) refl
exist-kinds op t u is = some-kinds op t u is

-- what the values of a kind of types are: whole numbers, texts or truth values
abbrev held : ℕ → ℕ
held k = cond (nat_eq k 1 || nat_eq k 3) 1 (cond (nat_eq k 2) 2 0)

abbrev value_kind : Value → ℕ
value_kind values.Null = 0
value_kind (values.Int n) = 0
value_kind (values.Text s) = 1
value_kind (values.Bool b) = 2

-- a value is NULL or of a kind
abbrev pub HasKind : ℕ → Value → Type 0
HasKind k values.Null = Unit {0}
HasKind k (values.Int n) = k ≡ 0
HasKind k (values.Text s) = k ≡ 1
HasKind k (values.Bool b) = k ≡ 2

like-kind : (s v : Value) → IsLike s v → HasKind (value_kind s) v
like-kind s values.Null like = tt
like-kind (values.Int n) (values.Int m) like = refl
like-kind (values.Text s) (values.Text t) like = refl
like-kind (values.Bool b) (values.Bool d) like = refl
like-kind s v like = absurd like

above : (a b : ℕ) → b < a → nat_eq a b ≡ false
above a b lt = by (nat_eq a b) refl
  where
    by : (c : Bool) → nat_eq a b ≡ c → nat_eq a b ≡ false
    by true is = let same : a ≡ b = (Decides-eqb a b).0 is in absurd (omega (arith, lt, same))
    by false is = is

held-above : (k : ℕ) → 3 < k → held k ≡ 0
held-above k lt =
    let one = above k 1 (omega (arith, lt)) in
    let two = above k 2 (omega (arith, lt)) in
    let three = above k 3 lt in
    rw (one, two, three) refl

some-kind : (t : SqlType) → value_kind (some_value t) ≡ held (type_kind t)
some-kind types.Int2 = refl
some-kind types.Int4 = refl
some-kind types.Int8 = refl
some-kind types.Text = refl
some-kind types.Bool = refl
some-kind types.Uuid = refl
some-kind types.Date = refl
some-kind types.Timestamp = refl
some-kind types.TimestampTz = refl
some-kind (types.Numeric digits scale) = sym (held-above (7 + scale) (omega arith))

-- a value of a type is of its kind
typed-kind : (t : SqlType) (v : Value) → IsOfType t v → HasKind (held (type_kind t)) v
typed-kind t v is = subst (λ k. HasKind k v) (some-kind t) (like-kind (some_value t) v (like_type t v is))

sample-kind : (t : SqlType) → HasKind (held (type_kind t)) (some_value t)
sample-kind t = subst (λ k. HasKind k (some_value t)) (some-kind t) (own (some_value t))
  where
    own : (v : Value) → HasKind (value_kind v) v
    own values.Null = tt
    own (values.Int n) = refl
    own (values.Text s) = refl
    own (values.Bool b) = refl

not-absolute : (b : Bool) (k : ℕ) → (b ≡ true → k ≡ 0) → (k ≡ 0 → ⊥) → b ≡ false
not-absolute true k only other = absurd (other (only refl))
not-absolute false k only other = refl

has-op : (op : Op) (k : ℕ) (v : Value) → (is_absolute op ≡ true → k ≡ 0) → HasKind k v → HasOp op v
has-op op k values.Null only is = tt
has-op op k (values.Int n) only is = tt
has-op op k (values.Text s) only is = not-absolute (is_absolute op) k only (λ zero. absurd (cc (zero, is)))
has-op op k (values.Bool b) only is = not-absolute (is_absolute op) k only (λ zero. absurd (cc (zero, is)))

same-kind : (k : ℕ) (v w : Value) → HasKind k v → HasKind k w → IsSameKind v w
same-kind k values.Null w a b = tt
same-kind k (values.Int n) values.Null a b = tt
same-kind k (values.Int n) (values.Int m) a b = tt
same-kind k (values.Int n) (values.Text s) a b = absurd (cc (a, b))
same-kind k (values.Int n) (values.Bool s) a b = absurd (cc (a, b))
same-kind k (values.Text n) values.Null a b = tt
same-kind k (values.Text n) (values.Int m) a b = absurd (cc (a, b))
same-kind k (values.Text n) (values.Text s) a b = tt
same-kind k (values.Text n) (values.Bool s) a b = absurd (cc (a, b))
same-kind k (values.Bool n) values.Null a b = tt
same-kind k (values.Bool n) (values.Int m) a b = absurd (cc (a, b))
same-kind k (values.Bool n) (values.Text s) a b = absurd (cc (a, b))
same-kind k (values.Bool n) (values.Bool s) a b = tt

-- sides of these types may be compared
comparable : (op : Op) (t u : SqlType) (v w : Value) → AreOfOneKind op t u → HasKind (held (type_kind t)) v → HasKind (held (type_kind u)) w → AreComparable op v w
comparable op t u v w kinds a b =
    let k = held (type_kind t) in
    let only = λ (abs : is_absolute op ≡ true). ap held (kinds.absolute abs) in
    let right = subst (λ k. HasKind (held k) w) (sym kinds.same) b in
    (has-op op k v only a, has-op op k w only right, same-kind k v w a right)

-- a step that is done
pub record Done {A B : Type 0} (m : Result A Fault) (f : A → Result B Fault) (c : B) : Type 0 where
  pub value : A
  pub first : m ≡ Ok value
  pub rest : f value ≡ Ok c

pub next-done : {A B : Type 0} (m : Result A Fault) (f : A → Result B Fault) (c : B) → next m f ≡ Ok c → Done m f c
next-done (Ok x) f c is = record { value = x; first = refl; rest = is }
next-done (Err g) f c is = absurd (cc (is))

-- an operator that is there
pub record Operated (t u : SqlType) (x y : Operand) (c : Cond) : Type 0 where
  pub op : Op
  pub exists : does_exist op t u ≡ true
  pub compared : c ≡ compare op x y

operated-by : (b : Bool) (op : Op) (token : Token) (t u : SqlType) (x y : Operand) (c : Cond) → does_exist op t u ≡ b → cond b (Ok (compare op x y)) (Err (fault_at S9 token)) ≡ Ok c → Operated t u x y c
operated-by true op token t u x y c there is = record { op = op; exists = there; compared = sym (cc (is)) }
operated-by false op token t u x y c there is = absurd (cc (is))

operated-done : (o : Option Op) (token : Token) (t u : SqlType) (x y : Operand) (c : Cond) → operated o token t u x y ≡ Ok c → Operated t u x y c
operated-done None token t u x y c is = absurd (cc (is))
operated-done (Some op) token t u x y c is = operated-by (does_exist op t u) op token t u x y c refl is

both-true : (a b : Bool) → a ≡ true → b ≡ true → a && b ≡ true
both-true true b x y = y
both-true false b x y = absurd (cc (x))

module _ (scope : Scope) (type_of : ColRef → SqlType) (test : ColRef → Bool) (all : All (λ v. test v.column ≡ true) scope) where
  -- well typed, and each column passes the test
  abbrev pub IsGood : Cond → Type 0
  IsGood c = IsTyped type_of c × (each_column test c ≡ true)

  abbrev AreGood : Conds → Type 0
  AreGood cs = AreTyped type_of cs × (each_column_of test cs ≡ true)

  the-column : (f : Found) (q n : Token) (r : ColRef) → the_column f q n ≡ Ok r → f ≡ One r
  the-column (One c) q n r is = ap One (cc (is))
  the-column NoTable q n r is = absurd (cc (is))
  the-column NoColumn q n r is = absurd (cc (is))
  the-column Many q n r is = absurd (cc (is))

  column-passes : (c : Col) (r : ColRef) → column_of scope c ≡ Ok r → test r ≡ true
  column-passes (bare n) r is = found-all (λ x. test x ≡ true) scope None (bytes_of n) r all (the-column (look_up scope None (bytes_of n)) (token_of n) (token_of n) r is)
  column-passes (qualified q d n) r is = found-all (λ x. test x ≡ true) scope (Some (bytes_of q)) (bytes_of n) r all (the-column (look_up scope (Some (bytes_of q)) (bytes_of n)) (token_of q) (token_of n) r is)

  -- a side
  abbrev FitsSide : BoundSide → Type 0
  FitsSide (of_column c t token) = (type_of c ≡ t) × (test c ≡ true)
  FitsSide (of_literal l) = Unit {0}
  FitsSide (of_typed n q) = Unit {0}

  side-fits : (o : OperandTree) (s : BoundSide) → side_of scope type_of o ≡ Ok s → FitsSide s
  side-fits (column c) s is =
      let d = next-done (column_of scope c) (λ r. Ok (of_column r (type_of r) (place_of_col c))) s is in
      let same : of_column d.value (type_of d.value) (place_of_col c) ≡ s = cc (d.rest) in
      subst FitsSide same (refl, column-passes c d.value d.first)
  side-fits (literal l) s is = let same : of_literal l ≡ s = cc (is) in subst FitsSide same tt
  side-fits (named_text n q) s is = let same : of_typed n q ≡ s = cc (is) in subst FitsSide same tt

  abbrev FitsOperand : SqlType → Operand → Type 0
  FitsOperand t (col_operand c) = (type_of c ≡ t) × (test c ≡ true)
  FitsOperand t (lit_operand v) = IsOfType t v

  operand-kind : (t : SqlType) (x : Operand) → FitsOperand t x → HasKind (held (type_kind t)) (value_of (λ c. some_value (type_of c)) x)
  operand-kind t (col_operand c) fits = subst (λ u. HasKind (held (type_kind u)) (some_value (type_of c))) fits.0 (sample-kind (type_of c))
  operand-kind t (lit_operand v) fits = typed-kind t v fits

  operand-passes : (t : SqlType) (x : Operand) → FitsOperand t x → passes_column test x ≡ true
  operand-passes t (col_operand c) fits = fits.1
  operand-passes t (lit_operand v) fits = refl

  operand-alike : (t u : SqlType) (x y : Operand) → type_kind t ≡ type_kind u → FitsOperand t x → FitsOperand u y → AreAlike type_of x y
  operand-alike t u (col_operand c) (col_operand d) same left right = ap type_kind left.0 ∙ (same ∙ sym (ap type_kind right.0))
  operand-alike t u (col_operand c) (lit_operand v) same left right = tt
  operand-alike t u (lit_operand v) (col_operand c) same left right = tt
  operand-alike t u (lit_operand v) (lit_operand w) same left right = tt

  operand-integer : (t : SqlType) (x : Operand) → type_kind t ≡ 0 → FitsOperand t x → IsInteger type_of x
  operand-integer t (col_operand c) zero fits = ap type_kind fits.0 ∙ zero
  operand-integer t (lit_operand v) zero fits = tt

  operand-fits : (s : BoundSide) (other : Option SqlType) (x : Operand) → FitsSide s → operand_of (type_beside s other) s ≡ Ok x → FitsOperand (type_beside s other) x
  operand-fits (of_column c t token) other x fits is = let same : col_operand c ≡ x = cc (is) in subst (FitsOperand t) same fits
  operand-fits (of_literal l) other x fits is =
      let t = type_beside (of_literal l) other in
      let d = next-done (literal_value t l) (λ v. Ok (lit_operand v)) x is in
      let same : lit_operand d.value ≡ x = cc (d.rest) in
      subst (FitsOperand t) same (literal-typed l other d.value d.first)
  operand-fits (of_typed n q) other x fits is =
      let t = type_beside (of_typed n q) other in
      let d = next-done (named_value (token_of n) (type_named (bytes_of n)) q.value) (λ v. Ok (lit_operand v)) x is in
      let same : lit_operand d.value ≡ x = cc (d.rest) in
      subst (FitsOperand t) same (named-typed (token_of n) (type_or types.Text other) (type_named (bytes_of n)) q.value d.value d.first)

  comparison-typed : (op : Op) (t u : SqlType) (x y : Operand) → does_exist op t u ≡ true → FitsOperand t x → FitsOperand u y → IsComparison type_of op x y
  comparison-typed op t u x y exists left right =
      let kinds = exist-kinds op t u exists in
      record {
        comparable = comparable op t u _ _ kinds (operand-kind t x left) (operand-kind u y right);
        alike = operand-alike t u x y kinds.same left right;
        integers = λ abs. (operand-integer t x (kinds.absolute abs) left, operand-integer u y (sym kinds.same ∙ kinds.absolute abs) right);
      }

  sides-good : (op : Said) (a b : BoundSide) (c : Cond) → FitsSide a → FitsSide b → compare_sides op a b ≡ Ok c → IsGood c
  sides-good op a b c fa fb is =
      let t = type_beside a (own_type b) in
      let u = type_beside b (own_type a) in
      let first = next-done (operand_of t a) (λ x. next (operand_of u b) (λ y. operated (operator_of op.value) op.token t u x y)) c is in
      let second = next-done (operand_of u b) (λ y. operated (operator_of op.value) op.token t u first.value y) c first.rest in
      let there = operated-done (operator_of op.value) op.token t u first.value second.value c second.rest in
      let left = operand-fits a (own_type b) first.value fa first.first in
      let right = operand-fits b (own_type a) second.value fb second.first in
      subst IsGood (sym there.compared) (comparison-typed there.op t u first.value second.value there.exists left right, both-true _ _ (operand-passes t first.value left) (operand-passes u second.value right))

  flag-good : (t : SqlType) (r : ColRef) (token : Token) (c : Cond) → type_of r ≡ t → test r ≡ true → flag_column t r token ≡ Ok c → IsGood c
  flag-good types.Bool r token c typed passes is = let same : bool_col r ≡ c = cc (is) in subst IsGood same (typed, passes)
  flag-good t r token c typed passes is = absurd (cc (is))

  good-and : (x : Cond) (xs ys : Conds) → IsGood x → AreGood xs → ys ≡ cond_and x xs → AreGood ys
  good-and x xs ys a b is = subst AreGood (sym is) ((a.0, b.0), both-true _ _ a.1 b.1)

  or-good : (xs : Conds) → AreGood xs → IsGood (or_of xs)
  or-good no_conds good = good
  or-good (cond_and c no_conds) good = (good.0.0, (and_parts (each_column test c) true good.1).0)
  or-good (cond_and c (cond_and d ds)) good = good

  and-good : (xs : Conds) → AreGood xs → IsGood (and_of xs)
  and-good no_conds good = good
  and-good (cond_and c no_conds) good = (good.0.0, (and_parts (each_column test c) true good.1).0)
  and-good (cond_and c (cond_and d ds)) good = good

  parts-good : (m : Result Cond Fault) (ms : Result Conds Fault) (xs : Conds) → then_parts m ms ≡ Ok xs → ((x : Cond) → m ≡ Ok x → IsGood x) → ((ys : Conds) → ms ≡ Ok ys → AreGood ys) → AreGood xs
  parts-good m ms xs is part parts =
      let first = next-done m (λ x. next ms (λ ys. Ok (cond_and x ys))) xs is in
      let second = next-done ms (λ ys. Ok (cond_and first.value ys)) xs first.rest in
      good-and first.value second.value xs (part first.value first.first) (parts second.value second.first) (sym (cc (second.rest)))

  comparison-good : (l : OperandTree) (op : Said) (r : OperandTree) (c : Cond) → comparison scope type_of l op r ≡ Ok c → IsGood c
  comparison-good l op r c is =
      let first = next-done (side_of scope type_of l) (λ a. next (side_of scope type_of r) (λ b. compare_sides op a b)) c is in
      let second = next-done (side_of scope type_of r) (λ b. compare_sides op first.value b) c first.rest in
      sides-good op first.value second.value c (side-fits l first.value first.first) (side-fits r second.value second.first) second.rest

  none-good : (m : Result Conds Fault) (cs : Conds) → m ≡ Ok no_conds → m ≡ Ok cs → AreGood cs
  none-good m cs h is = let same : no_conds ≡ cs = cc (h, is) in subst AreGood same (tt, refl)

  equal-good : (x : Col) (w : Token) (ls : List Lit) (cs : Conds) → equal_to scope type_of x w ls ≡ Ok cs → AreGood cs
  equal-good x w [] cs is = none-good (equal_to scope type_of x w []) cs refl is
  equal-good x w (l ∷ ls) cs is =
      parts-good (comparison scope type_of (column x) (standing_for (codes "=") w) (literal l)) (equal_to scope type_of x w ls) cs is
      (λ y e. comparison-good (column x) (standing_for (codes "=") w) (literal l) y e) (λ ys e. equal-good x w ls ys e)

  bounded-good : (x : OperandTree) (w : Token) (a b : OperandTree) (cs : Conds) → bounded_by scope type_of x w a b ≡ Ok cs → AreGood cs
  bounded-good x w a b cs is =
      let low = standing_for (codes ">=") w in
      let high = standing_for (codes "<=") w in
      parts-good (comparison scope type_of x low a) (then_parts (comparison scope type_of x high b) (Ok no_conds)) cs is (λ y e. comparison-good x low a y e)
      (λ ys e. parts-good (comparison scope type_of x high b) (Ok no_conds) ys e (λ y f. comparison-good x high b y f) (λ zs f. none-good (Ok no_conds) zs refl f))

  negated-good : (n : Negated) (c : Cond) → IsGood c → IsGood (negated_by n c)
  negated-good no_not c good = good
  negated-good (not_before k) c good = good

  mutual
    pub expr-good : (e : Expr) (c : Cond) → meaning_of_expr scope type_of e ≡ Ok c → IsGood c
    expr-good (either_of p ps) c is =
        let d = next-done (then_parts (meaning_of_conj scope type_of p) (meaning_of_ors scope type_of ps)) (λ xs. Ok (or_of xs)) c is in
        let same : or_of d.value ≡ c = cc (d.rest) in
        subst IsGood same (or-good d.value (parts-good (meaning_of_conj scope type_of p) (meaning_of_ors scope type_of ps) d.value d.first (λ x e. conj-good p x e) (λ ys e. ors-good ps ys e)))

    ors-good : (ps : Ors) (cs : Conds) → meaning_of_ors scope type_of ps ≡ Ok cs → AreGood cs
    ors-good no_or cs is = let same : no_conds ≡ cs = cc (is) in subst AreGood same (tt, refl)
    ors-good (or_conj k p ps) cs is = parts-good (meaning_of_conj scope type_of p) (meaning_of_ors scope type_of ps) cs is (λ x e. conj-good p x e) (λ ys e. ors-good ps ys e)

    conj-good : (p : Conj) (c : Cond) → meaning_of_conj scope type_of p ≡ Ok c → IsGood c
    conj-good (both_of n ns) c is =
        let d = next-done (then_parts (meaning_of_neg scope type_of n) (meaning_of_ands scope type_of ns)) (λ xs. Ok (and_of xs)) c is in
        let same : and_of d.value ≡ c = cc (d.rest) in
        subst IsGood same (and-good d.value (parts-good (meaning_of_neg scope type_of n) (meaning_of_ands scope type_of ns) d.value d.first (λ x e. neg-good n x e) (λ ys e. ands-good ns ys e)))

    ands-good : (ps : Ands) (cs : Conds) → meaning_of_ands scope type_of ps ≡ Ok cs → AreGood cs
    ands-good no_and cs is = let same : no_conds ≡ cs = cc (is) in subst AreGood same (tt, refl)
    ands-good (and_neg k n ns) cs is = parts-good (meaning_of_neg scope type_of n) (meaning_of_ands scope type_of ns) cs is (λ x e. neg-good n x e) (λ ys e. ands-good ns ys e)

    neg-good : (n : Neg) (c : Cond) → meaning_of_neg scope type_of n ≡ Ok c → IsGood c
    neg-good (negated k n) c is =
        let d = next-done (meaning_of_neg scope type_of n) (λ x. Ok (negation x)) c is in
        let same : negation d.value ≡ c = cc (d.rest) in
        subst IsGood same (neg-good n d.value d.first)
    neg-good (plain a) c is = atom-good a c is

    atom-good : (a : Atom) (c : Cond) → meaning_of_atom scope type_of a ≡ Ok c → IsGood c
    atom-good (parens b e d) c is = expr-good e c is
    atom-good (compareTree l op r) c is = comparison-good l op r c is
    atom-good (is_null x i k) c is =
        let d = next-done (column_of scope x) (λ r. Ok (null_test r)) c is in
        let same : null_test d.value ≡ c = cc (d.rest) in
        subst IsGood same (tt, column-passes x d.value d.first)
    atom-good (is_not_null x i n k) c is =
        let d = next-done (column_of scope x) (λ r. Ok (not_null_test r)) c is in
        let same : not_null_test d.value ≡ c = cc (d.rest) in
        subst IsGood same (tt, column-passes x d.value d.first)
    atom-good (in_list u x n w o l ls m) c is =
        let d = next-done (equal_to scope type_of x w (l ∷ literals_after ls)) (λ xs. Ok (negated_by n (or_of xs))) c is in
        let same : negated_by n (or_of d.value) ≡ c = cc (d.rest) in
        subst IsGood same (negated-good n (or_of d.value) (or-good d.value (equal-good x w (l ∷ literals_after ls) d.value d.first)))
    atom-good (between u x n w a j b) c is =
        let d = next-done (bounded_by scope type_of x w a b) (λ xs. Ok (negated_by n (and_of xs))) c is in
        let same : negated_by n (and_of d.value) ≡ c = cc (d.rest) in
        subst IsGood same (negated-good n (and_of d.value) (and-good d.value (bounded-good x w a b d.value d.first)))
    atom-good (column_alone x) c is =
        let d = next-done (column_of scope x) (λ r. flag_column (type_of r) r (place_of_col x)) c is in
        flag-good (type_of d.value) d.value (place_of_col x) c refl (column-passes x d.value d.first) d.rest
    atom-good (constant_alone k t) c is = let same : const (truth_of_constant k) ≡ c = cc (is) in subst IsGood same (tt, refl)
