-- Implied conditions are True wherever the clause is.
use Rattle.std.proofs.Common.{◌≡◌, ℕ, Bool, true, false, cond, nat_eq, ◌||◌, List, refl, sym, subst, ap, ◌∙◌, ◌⊎◌, inl, inr, Option, Some, None, arith}
use Rattle.std.specs.Prelude.{slice_get, IfSome, option_and_then, ℤ, pos, negsuc}
use Rattle.std.specs.Cmp.{IsTotalOrder}
use Rattle.std.specs.declared.cmp.Ordering.{Ordering}
use Rattle.std.proofs.lemmas.Bool.{eqb-true, ltb-true}
use Rattle.pg_base.specs.declared.numbers.ColNo.{ColNo}
use Rattle.pg_value.specs.declared.columns.Column.{Column}
use Rattle.pg_value.specs.declared.operators.Family.{Family}
use Rattle.pg_value.specs.declared.operators.Family.TheVariants.{Integer, IntAbs, Text as TextOps, Bool as BoolOps, Uuid as UuidOps, Date as DateOps, Timestamp as TimestampOps, TimestampTz as TimestampTzOps, Numeric as NumericOps}
use Rattle.pg_value.specs.declared.operators.Op.{Op}
use Rattle.pg_value.specs.declared.operators.Truth.{Truth}
use Rattle.pg_value.specs.declared.operators.Truth.TheVariants.{True, False, Unknown}
use Rattle.pg_value.specs.declared.value.SqlType.{SqlType}
use Rattle.pg_value.specs.declared.value.SqlType.TheVariants.{Int2, Int4, Int8, Text as TextType, Bool as BoolType, Uuid as UuidType, Date as DateType, Timestamp as TimestampType, TimestampTz as TimestampTzType, Numeric as NumericType}
use Rattle.pg_value.specs.declared.value.Value.{Value}
use Rattle.pg_value.specs.declared.value.Value.TheVariants.{Null, Int, Bool as Flag, Text as String}
use Rattle.pg_value.specs.Order.{value_order}
use Rattle.pg_value.specs.Truths.{both, either, opposite, truth_of, truth_of_op, accepts, is_absolute, comparing_family}
use Rattle.pg_expr.specs.declared.operand.ColRef.{ColRef}
use Rattle.pg_expr.specs.declared.operand.Operand.{Operand}
use Rattle.pg_expr.specs.declared.operand.Operand.TheVariants.{Col, Lit}
use Rattle.pg_expr.specs.Columns.{names_column}
use Rattle.pg_expr.specs.Cond.{Cond, compare, is_null, is_not_null, bool_col, const, all_of, any_of, negation, Conds}
use Rattle.pg_expr.specs.Truths.{value_of, truth_of_null, truth_of_flag, truth_at, truth_of_all, truth_of_any}
use Rattle.pg_value.specs.Types.{IsOfType}
use Rattle.predicate_proof.specs.Atoms.{SameSide, SameAtom, has_column_number, typed_family, operator_family, IsFamilyValue, CellHolds, TableGives}
use Rattle.predicate_proof.specs.Derivation.{Implies, each_part, each_arm, arm_by_arm, atom_to_part, part_to_atom, all_to_part, part_to_any, same, not_null, by_table, ImpliesAll, no_part, part_and, ImpliesSome, this_part, later_part, AllImply, no_arm, arm_and, SomeImplies, this_clause, later_clause, EachImpliesSome, no_choice, choice_and}
use Rattle.predicate_proof.specs.work.Rows.{at_row, FitsColumns}
use Rattle.predicate_proof.proofs.Table.{cell-sound}
use Rattle.pg_expr.proofs.DefinedLaws.{no_number}

both_left : (a b : Truth) → both a b ≡ True → a ≡ True
both_left True b h = refl
both_left False b h = cc
both_left Unknown True h = cc
both_left Unknown False h = cc
both_left Unknown Unknown h = cc

both_right : (a b : Truth) → both a b ≡ True → b ≡ True
both_right True b h = h
both_right False b h = cc
both_right Unknown True h = cc
both_right Unknown False h = cc
both_right Unknown Unknown h = cc

either_right : (a : Truth) → either a True ≡ True
either_right True = refl
either_right False = refl
either_right Unknown = refl

-- where an OR is True, one of its two sides is
either_true : (a b : Truth) (C : Type 0) → either a b ≡ True → (a ≡ True → C) → (b ≡ True → C) → C
either_true True b C h left right = left refl
either_true False b C h left right = right h
either_true Unknown True C h left right = right refl
either_true Unknown False C h left right = absurd (cc h)
either_true Unknown Unknown C h left right = absurd (cc h)

-- the sides of a comparison that is True are not NULL
left-given : (op : Op) (a b : Value) → truth_of_op op a b ≡ True → opposite (truth_of_null a) ≡ True
left-given op Null b h = cc
left-given op (Int n) b h = refl
left-given op (Flag f) b h = refl
left-given op (String t) b h = refl

right-given : (op : Op) (a b : Value) → truth_of_op op a b ≡ True → opposite (truth_of_null b) ≡ True
right-given op Null Null h = cc
right-given op (Int n) Null h = cc
right-given op (Flag f) Null h = cc
right-given op (String t) Null h = cc
right-given op a (Int n) h = refl
right-given op a (Flag f) h = refl
right-given op a (String t) h = refl

truth-true : (b : Bool) → truth_of b ≡ True → b ≡ true
truth-true true h = refl
truth-true false h = cc

-- a comparison of values that are not NULL is by the order of the operator's family
compared-given : (op : Op) (a b : Value) → opposite (truth_of_null a) ≡ True → opposite (truth_of_null b) ≡ True → truth_of_op op a b ≡ truth_of (accepts op (value_order (comparing_family op a) a b))
compared-given op Null b h k = cc
compared-given op (Int n) Null h k = cc
compared-given op (Int n) (Int m) h k = refl
compared-given op (Int n) (Flag m) h k = refl
compared-given op (Int n) (String m) h k = refl
compared-given op (Flag n) Null h k = cc
compared-given op (Flag n) (Int m) h k = refl
compared-given op (Flag n) (Flag m) h k = refl
compared-given op (Flag n) (String m) h k = refl
compared-given op (String n) Null h k = cc
compared-given op (String n) (Int m) h k = refl
compared-given op (String n) (Flag m) h k = refl
compared-given op (String n) (String m) h k = refl

value-given : (f : Family) (v : Value) → IsFamilyValue f v → opposite (truth_of_null v) ≡ True
value-given f (Int n) h = refl
value-given f (Flag b) h = refl
value-given f (String t) h = refl
value-given Integer Null h = absurd h
value-given IntAbs Null h = absurd h
value-given TextOps Null h = absurd h
value-given BoolOps Null h = absurd h
value-given UuidOps Null h = absurd h
value-given DateOps Null h = absurd h
value-given TimestampOps Null h = absurd h
value-given TimestampTzOps Null h = absurd h
value-given (NumericOps scale) Null h = absurd h

-- an operator over a family that orders as the default one of a kind
chosen : (b : Bool) (kind g f : Family) → value_order kind ≡ value_order g → cond b (Some IntAbs) (Some g) ≡ Some f → value_order (cond b IntAbs kind) ≡ value_order f
chosen true kind g f alike e = let is : IntAbs ≡ f = cc in ap value_order is
chosen false kind g f alike e = let is : g ≡ f = cc in alike ∙ ap value_order is

-- the order by which an operator compares a value of a type
order-fits : (t : SqlType) (op : Op) (x : Value) (f : Family) → IsOfType t x → opposite (truth_of_null x) ≡ True → typed_family t op ≡ Some f → value_order (comparing_family op x) ≡ value_order f
order-fits t op Null f fits given e = cc
order-fits Int2 op (Int n) f fits given e = chosen (is_absolute op) Integer Integer f refl e
order-fits Int4 op (Int n) f fits given e = chosen (is_absolute op) Integer Integer f refl e
order-fits Int8 op (Int n) f fits given e = chosen (is_absolute op) Integer Integer f refl e
order-fits DateType op (Int n) f fits given e = chosen (is_absolute op) Integer DateOps f refl e
order-fits TimestampType op (Int n) f fits given e = chosen (is_absolute op) Integer TimestampOps f refl e
order-fits TimestampTzType op (Int n) f fits given e = chosen (is_absolute op) Integer TimestampTzOps f refl e
order-fits (NumericType digits scale) op (Int n) f fits given e = chosen (is_absolute op) Integer (NumericOps scale) f refl e
order-fits TextType op (Int n) f fits given e = absurd (no_number TextType n refl fits)
order-fits BoolType op (Int n) f fits given e = absurd (no_number BoolType n refl fits)
order-fits UuidType op (Int n) f fits given e = absurd (no_number UuidType n refl fits)
order-fits BoolType op (Flag b) f fits given e = chosen (is_absolute op) BoolOps BoolOps f refl e
order-fits TextType op (String t) f fits given e = chosen (is_absolute op) TextOps TextOps f refl e
order-fits UuidType op (String t) f fits given e = chosen (is_absolute op) TextOps UuidOps f refl e
order-fits t op x f fits given e = absurd fits

-- the order by which an operator compares a value of a column
column-fits : (column : Option Column) (op : Op) (x : Value) (f : Family) → IfSome column (λ c. IsOfType c.typed x) → opposite (truth_of_null x) ≡ True →
    option_and_then (λ c. typed_family c.typed op) column ≡ Some f → value_order (comparing_family op x) ≡ value_order f
column-fits (Some column) op x f fits given e = order-fits column.typed op x f fits given e
column-fits None op x f fits given e = cc

cell-family : (o : Option Family) (op : Op) (v : Value) (other : Op) (w : Value) → CellHolds o op v other w → (f : Family) × (o ≡ Some f) × CellHolds (Some f) op v other w
cell-family (Some f) op v other w h = (f, refl, h)
cell-family None op v other w h = absurd h

module _ (total : (f : Family) → IsTotalOrder (value_order f)) (columns : List Column) (row : ColNo → Value) (fits : FitsColumns columns row) where
  side-same : (l m : Operand) → SameSide l m → value_of (at_row row) l ≡ value_of (at_row row) m
  side-same (Col c) (Col d) h = ap row h
  side-same (Lit v) (Lit w) h = h
  side-same l m h = absurd h

  atom-same : (c p : Cond) → SameAtom c p → truth_at (at_row row) c ≡ truth_at (at_row row) p
  atom-same (compare op l r) (compare other m s) (h, left, right) =
      ap (λ o. truth_of_op o (value_of (at_row row) l) (value_of (at_row row) r)) h
      ∙ ap (λ v. truth_of_op other v (value_of (at_row row) r)) (side-same l m left)
      ∙ ap (λ v. truth_of_op other (value_of (at_row row) m) v) (side-same r s right)
  atom-same (is_null c) (is_null d) h = ap (λ n. truth_of_null (row n)) h
  atom-same (is_not_null c) (is_not_null d) h = ap (λ n. opposite (truth_of_null (row n))) h
  atom-same (bool_col c) (bool_col d) h = ap (λ n. truth_of_flag (row n)) h
  atom-same (const t) (const u) h = h
  atom-same (negation c) (negation d) h = ap opposite (atom-same c d h)
  atom-same c p h = absurd h

  col-same : (c d : ColNo) → nat_eq c.0 d.0 ≡ true → c ≡ d
  col-same c d h =
      let make : ℕ → ColNo = λ n. record { 0 = n } in
      ap make (eqb-true c.0 d.0 h)

  column-named : (d : ColNo) (o : Operand) → names_column (has_column_number d) o ≡ true → opposite (truth_of_null (value_of (at_row row) o)) ≡ True → opposite (truth_of_null (row d)) ≡ True
  column-named d (Col c) h given = subst (λ n. opposite (truth_of_null (row n)) ≡ True) (col-same c.col d h) given
  column-named d (Lit v) h given = cc

  or-cases : (a b : Bool) → a || b ≡ true → (a ≡ true) ⊎ (b ≡ true)
  or-cases true b h = inl refl
  or-cases false b h = inr h

  null-sound : (op : Op) (l r : Operand) (d : ColRef) → names_column (has_column_number d.col) l || names_column (has_column_number d.col) r ≡ true →
      truth_of_op op (value_of (at_row row) l) (value_of (at_row row) r) ≡ True → opposite (truth_of_null (row d.col)) ≡ True
  null-sound op l r d names h = elim (or-cases (names_column (has_column_number d.col) l) _ names) [
    | inl left ↦ column-named d.col l left (left-given op _ _ h)
    | inr right ↦ column-named d.col r right (right-given op _ _ h)
  ]

  table-sound : (op : Op) (c : ColNo) (v : Value) (other : Op) (d : ColNo) (w : Value) → TableGives columns op c v other d w → truth_of_op op (row c) v ≡ True → truth_of_op other (row d) w ≡ True
  table-sound op c v other d w (column, families, holds) h =
      let found = cell-family (operator_family columns c op) op v other w holds in
      let f = found.0 in
      let given = left-given op (row c) v h in
      let of_clause : value_order (comparing_family op (row c)) ≡ value_order f = column-fits (slice_get columns c.0) op (row c) f (fits c) given found.1 in
      let same_family : operator_family columns c other ≡ Some f = subst (λ (n : ColNo). operator_family columns n other ≡ Some f) (sym column) (sym families ∙ found.1) in
      let of_goal : value_order (comparing_family other (row c)) ≡ value_order f = column-fits (slice_get columns c.0) other (row c) f (fits c) given same_family in
      let clause : accepts op (value_order f (row c) v) ≡ true =
      truth-true _ (ap (λ (order : Value → Value → Ordering). truth_of (accepts op (order (row c) v))) (sym of_clause) ∙ sym (compared-given op (row c) v given (value-given f v found.2.0)) ∙ h) in
      let goal = cell-sound (value_order f) (total f) (row c) v w op other clause found.2.2 in
      subst (λ (n : ColNo). truth_of_op other (row n) w ≡ True) column
      (compared-given other (row c) w given (value-given f w found.2.1)
      ∙ ap (λ (order : Value → Value → Ordering). truth_of (accepts other (order (row c) w))) of_goal
      ∙ ap truth_of goal)

  -- by induction on the derivation
  mutual
    pub sound : (c p : Cond) → Implies columns c p → truth_at (at_row row) c ≡ True → truth_at (at_row row) p ≡ True
    sound c p (each_part _ ps all) h = sound_all c ps all h
    sound c p (each_arm cs _ kind all) h = sound_arms cs p all h
    sound c p (arm_by_arm cs ps each) h = sound_each cs ps each h
    sound c p (atom_to_part _ ps kind some) h = sound_some c ps some h
    sound c p (part_to_atom cs _ kind some) h = sound_one cs p some h
    sound c p (all_to_part cs ps some) h = sound_some (all_of cs) ps some h
    sound c p (part_to_any cs ps some) h = sound_one cs (any_of ps) some h
    sound c p (same _ _ equal) h = sym (atom-same c p equal) ∙ h
    sound c p (not_null op l r d names) h = null-sound op l r d names h
    sound c p (by_table op d v other e w table) h = table-sound op d.col v other e.col w table h

    sound_all : (c : Cond) (ps : Conds) → ImpliesAll columns c ps → truth_at (at_row row) c ≡ True → truth_of_all (at_row row) ps ≡ True
    sound_all c ps (no_part _) h = refl
    sound_all c ps (part_and _ p rest first more) h = ap (λ t. both t (truth_of_all (at_row row) rest)) (sound c p first h) ∙ sound_all c rest more h

    sound_some : (c : Cond) (ps : Conds) → ImpliesSome columns c ps → truth_at (at_row row) c ≡ True → truth_of_any (at_row row) ps ≡ True
    sound_some c ps (this_part _ p rest first) h = ap (λ t. either t (truth_of_any (at_row row) rest)) (sound c p first h)
    sound_some c ps (later_part _ p rest more) h = ap (either (truth_at (at_row row) p)) (sound_some c rest more h) ∙ either_right (truth_at (at_row row) p)

    sound_arms : (cs : Conds) (p : Cond) → AllImply columns cs p → truth_of_any (at_row row) cs ≡ True → truth_at (at_row row) p ≡ True
    sound_arms cs p (no_arm _) h = cc
    sound_arms cs p (arm_and c _ rest first more) h =
        either_true (truth_at (at_row row) c) (truth_of_any (at_row row) rest) (truth_at (at_row row) p ≡ True) h
        (λ e. sound c p first e) (λ e. sound_arms rest p more e)

    sound_one : (cs : Conds) (p : Cond) → SomeImplies columns cs p → truth_of_all (at_row row) cs ≡ True → truth_at (at_row row) p ≡ True
    sound_one cs p (this_clause c _ rest first) h = sound c p first (both_left (truth_at (at_row row) c) (truth_of_all (at_row row) rest) h)
    sound_one cs p (later_clause c _ rest more) h = sound_one rest p more (both_right (truth_at (at_row row) c) (truth_of_all (at_row row) rest) h)

    sound_each : (cs ps : Conds) → EachImpliesSome columns cs ps → truth_of_any (at_row row) cs ≡ True → truth_of_any (at_row row) ps ≡ True
    sound_each cs ps (no_choice _) h = cc
    sound_each cs ps (choice_and c rest _ first more) h =
        either_true (truth_at (at_row row) c) (truth_of_any (at_row row) rest) (truth_of_any (at_row row) ps ≡ True) h
        (λ e. sound_some c ps first e) (λ e. sound_each rest ps more e)
