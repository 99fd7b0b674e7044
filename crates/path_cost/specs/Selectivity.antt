-- The share of rows at which a condition is taken to be True, in parts per 10^9. Own, in the manner of PostgreSQL's
-- var_eq_const, scalarineqsel, eqjoinsel and clauselist_selectivity.
use Rattle.std.specs.Prelude.{ℕ, ◌+◌, ◌-◌, ◌*◌, ◌/◌, ◌&&◌, min, max, Bool, true, false, cond, not, nat_eq, List, [], ◌∷◌, length, map, take, find, sum_by, count_by, Option, Some, None, ℤ, unsigned_abs, ◌-ℤ◌}
use Rattle.std.specs.Option.{option_map}
use Rattle.pg_value.specs.declared.columns.Column.{Column}
use Rattle.pg_value.specs.declared.operators.Op.{Op}
use Rattle.pg_value.specs.declared.operators.Op.TheVariants.{Lt, Le, Eq, Ge, Gt, Ne, AbsEq}
use Rattle.pg_value.specs.declared.value.Value.{Value}
use Rattle.pg_value.specs.declared.value.Value.TheVariants.{Null, Int}
use Rattle.pg_value.specs.Truths.{is_true, truth_of_op, commutator_of}
use Rattle.pg_expr.specs.declared.operand.ColRef.{ColRef}
use Rattle.pg_expr.specs.declared.operand.Operand.{Operand}
use Rattle.pg_expr.specs.declared.operand.Operand.TheVariants.{Col, Lit}
use Rattle.pg_expr.specs.Cond.{Cond, compare, is_null, is_not_null, bool_col, const, all_of, any_of, negation, Conds, no_conds, cond_and}
use Rattle.catalog.specs.Contents.{Contents}
use Rattle.catalog.specs.Range.{Range, column_at}
use Rattle.catalog.specs.Statistics.{Common, Statistics, bound_at, shares}
use Rattle.catalog.specs.declared.limits.TheConstants.{WHOLE_SHARE}
use Rattle.path_cost.specs.declared.shares.TheConstants.{ALL_ROWS, THIRD, HALF, UNKNOWN_NULLS, PER_SHARE}
use Rattle.path_cost.specs.Columns.{known_statistics, stats_of}
use Rattle.path_cost.specs.Ranges.{ColumnBound, bound_of, both_ends, listed_condition, has_bound, has_end, is_bound_at}
use Rattle.eq_classes.specs.Classes.{listed}

-- a comparison of two values is True
abbrev pub comparison_holds : Op → Value → Value → Bool
comparison_holds op a b = is_true (truth_of_op op a b)

-- the share of rows without NULL, and that of neither NULL nor a common value, in parts per million
abbrev pub valued : Statistics → ℕ
valued s = WHOLE_SHARE - s.nulls

-- rows whose value is neither NULL nor a common one, in parts per million
abbrev pub uncommon : Statistics → ℕ
uncommon s = WHOLE_SHARE - s.nulls - shares s.common

-- column = literal: the share of the common value, else an even part of what is not common
abbrev pub equal_by : Statistics → Option ℕ → ℕ
equal_by s (Some share) = PER_SHARE * share
equal_by s None = PER_SHARE * uncommon s / max 1 (s.distinct - length s.common)

-- the share of the common value that equals a literal, where one does
abbrev pub share_among : List Common → Value → Option ℕ
share_among common v = option_map (λ (p : Common). p.1) (find (λ (p : Common). comparison_holds Eq p.0 v) common)

-- column = literal in parts per 10^9, the literal looked for among the common values (var_eq_const)
abbrev pub equal_share : Statistics → Value → ℕ
equal_share s v = equal_by s (share_among s.common v)

-- how many bounds a literal has below it, for < and >=, or not above it, for <= and >
abbrev pub passing : Op → Op
passing Lt = Lt
passing Ge = Lt
passing _ = Le

-- at how many bounds of a histogram a comparison of the bound with the literal is True
abbrev pub count_holding : Op → List Value → Value → ℕ
count_holding op histogram v = count_by (λ b. comparison_holds op b v) histogram

-- how many bounds of a histogram stand below a literal, or not above it, as its operator counts them
abbrev pub bounds_passed : Op → List Value → Value → ℕ
bounds_passed op histogram v = count_holding (passing op) histogram v

-- twice the way to a literal from the bound below it, so far away: less one for < and >=, and one more for <= and >
abbrev pub twice_up : Op → ℕ → ℕ
twice_up Lt d = 2 * d - 1
twice_up Ge d = 2 * d - 1
twice_up _ d = 2 * d + 1

-- how far a whole number is above another
abbrev pub apart : ℤ → ℤ → ℕ
apart a b = unsigned_abs (b -ℤ a)

-- how wide the step between two bounds is, and twice the way to a literal in it: half a step in a column whose values are
-- no whole numbers
abbrev pub histogram_step : Op → Value → Value → Value → ℕ × ℕ
histogram_step op (Int a) (Int b) (Int v) = (apart a b, twice_up op (apart a v))
histogram_step op a b v = (1, 1)

-- parts of a whole before a literal in the step behind j of k bounds, by the step's width and twice the way in it
abbrev pub part_below_literal : ℕ → ℕ → ℕ × ℕ → ℕ × ℕ
part_below_literal k j step = ((2 * j - 2) * step.0 + step.1, 2 * (k - 1) * step.0)

-- parts of a whole before a literal that passes j bounds of a histogram: none, all, or to its place in a step, linear
-- between the two bounds
abbrev pub place : Op → Statistics → Value → ℕ → ℕ × ℕ
place op s v j =
    let k = length s.histogram in
    cond (nat_eq j 0) (0, 2 * (k - 1))
    (cond (nat_eq j k) (2 * (k - 1), 2 * (k - 1)) (part_below_literal k j (histogram_step op (bound_at s (j - 1)) (bound_at s j) v)))

-- the parts at which a comparison holds: those before the literal for < and <=, those behind it for > and >=
abbrev pub met_of : Op → ℕ × ℕ → ℕ
met_of Lt p = p.0
met_of Le p = p.0
met_of _ p = p.1 - p.0

-- the shares of the common values that meet a comparison
abbrev pub shares_met : Op → List Common → Value → ℕ
shares_met op common v = sum_by (λ (p : Common). cond (comparison_holds op p.0 v) p.1 0) common

-- an inequality by the histogram: the common values that meet it, and a part of the others
abbrev pub by_histogram : Op → Statistics → Value → ℕ
by_histogram op s v =
    let p = place op s v (bounds_passed op s.histogram v) in
    PER_SHARE * shares_met op s.common v + PER_SHARE * uncommon s * met_of op p / p.1

-- an inequality: by the histogram where there is one, else a third
abbrev pub inequality : Op → Statistics → Value → ℕ
inequality op s v = cond (nat_eq (length s.histogram) 0) THIRD (by_histogram op s v)

-- a column and a literal that is not NULL
abbrev pub column_literal : Op → Statistics → Value → ℕ
column_literal Eq s v = equal_share s v
column_literal AbsEq s v = PER_SHARE * valued s / s.distinct
column_literal Ne s v = PER_SHARE * valued s - equal_share s v
column_literal Lt s v = inequality Lt s v
column_literal Le s v = inequality Le s v
column_literal Ge s v = inequality Ge s v
column_literal Gt s v = inequality Gt s v
column_literal op s v = THIRD

-- two columns
abbrev pub equal_columns : Statistics → Statistics → ℕ
equal_columns s t = ALL_ROWS * valued s * valued t / (WHOLE_SHARE * WHOLE_SHARE * max s.distinct t.distinct)

-- a comparison of two columns: equality by the greater number of different values (eqjoinsel), `<>` the rest, an
-- inequality a third
abbrev pub two_columns : Op → Statistics → Statistics → ℕ
two_columns Eq s t = equal_columns s t
two_columns AbsEq s t = equal_columns s t
two_columns Ne s t = ALL_ROWS - equal_columns s t
two_columns op s t = THIRD

-- all rows or none
abbrev pub all_or_none : Bool → ℕ
all_or_none b = cond b ALL_ROWS 0

-- IS NULL: none of a NOT NULL column; the share of NULLs where it is known; else one in 200
abbrev pub null_by : Column → Option Statistics → ℕ
null_by column (Some s) = cond column.not_null 0 (PER_SHARE * s.nulls)
null_by column None = cond column.not_null 0 UNKNOWN_NULLS

-- AND and OR of two shares
abbrev pub and_share : ℕ → ℕ → ℕ
and_share a b = a * b / ALL_ROWS

-- of two independent conditions the share at which one or the other is True
abbrev pub or_share : ℕ → ℕ → ℕ
or_share a b = a + b - a * b / ALL_ROWS

-- both ends of a range of a column together
abbrev pub range_share : Statistics → ℕ → ℕ → ℕ
range_share s a b = both_ends (PER_SHARE * valued s) (equal_by s None) a b

-- a list bounds a column that has a histogram from both sides
abbrev pub is_ranged : Statistics → ColRef → List Cond → Bool
is_ranged s x es = not (nat_eq (length s.histogram) 0) && (has_bound x true es && has_bound x false es)

-- what a condition multiplies with: what it is given as one end of a range, else its own share
abbrev pub weight_or : Option ℕ → ℕ → ℕ
weight_or (Some given) own = given
weight_or None own = own

module _ (c : Contents) (range : Range) where
  -- a column of the query and a literal; a comparison with NULL is True at no row
  abbrev pub of_column_and : Op → ColRef → Value → ℕ
  of_column_and op x Null = 0
  of_column_and op x v = column_literal op (stats_of c range x) v

  -- a comparison by its sides: a literal on the left is put on the right, and two literals are True at all rows or at none
  abbrev pub of_comparison : Op → Operand → Operand → ℕ
  of_comparison op (Col x) (Col y) = two_columns op (stats_of c range x) (stats_of c range y)
  of_comparison op (Col x) (Lit v) = of_column_and op x v
  of_comparison op (Lit v) (Col x) = of_column_and (commutator_of op) x v
  of_comparison op (Lit v) (Lit w) = all_or_none (comparison_holds op v w)

  -- IS NULL of a column of the query, by its declaration and its statistics
  abbrev pub of_null : ColRef → ℕ
  of_null x = null_by (column_at c range x) (known_statistics c range x)

  -- the share of a bound
  abbrev pub bound_share : Cond → ℕ
  bound_share (compare op l r) = of_comparison op l r
  bound_share _ = ALL_ROWS

  -- the least share of the bounds of a column from a side; all rows where there are none
  abbrev pub least_bound : ColRef → Bool → List Cond → ℕ
  least_bound x below [] = ALL_ROWS
  least_bound x below (e ∷ es) = cond (is_bound_at x below (bound_of e)) (min (bound_share e) (least_bound x below es)) (least_bound x below es)

  -- the bounds of a column in a list, taken together
  abbrev pub column_range : ColRef → List Cond → ℕ
  column_range x es = range_share (stats_of c range x) (least_bound x true es) (least_bound x false es)

  -- what a bound multiplies with in a list that bounds its column from both sides: the share of the range, and all rows where
  -- one of these bounds stands before it
  abbrev pub end_weight : List Cond → List Cond → Option ColumnBound → Option ℕ
  end_weight es before None = None
  end_weight es before (Some (x, below)) =
      cond (is_ranged (stats_of c range x) x es) (Some (cond (has_end x before) ALL_ROWS (column_range x es))) None

  -- what the condition of a number of a list multiplies with as one end of a range, if it is one
  abbrev pub range_weight : List Cond → ℕ → Option ℕ
  range_weight es n = end_weight es (take n es) (bound_of (listed_condition es n))

  abbrev mutual
    -- the share of rows at which a condition is True, in parts per 10^9; conditions are taken as independent but for the
    -- bounds of a column (clauselist_selectivity), a boolean column as half
    pub selectivity : Cond → ℕ
    selectivity (compare op l r) = of_comparison op l r
    selectivity (is_null x) = of_null x
    selectivity (is_not_null x) = ALL_ROWS - of_null x
    selectivity (bool_col x) = HALF
    selectivity (const t) = all_or_none (is_true t)
    selectivity (all_of es) = of_all (listed es) 0 ALL_ROWS es
    selectivity (any_of es) = of_any 0 es
    selectivity (negation e) = ALL_ROWS - selectivity e

    -- AND, from the left, after a share, over what its parts multiply with; the first that is left has the number given
    pub of_all : List Cond → ℕ → ℕ → Conds → ℕ
    of_all parts n a no_conds = a
    of_all parts n a (cond_and e es) = of_all parts (n + 1) (and_share a (weight_or (range_weight parts n) (selectivity e))) es

    -- OR, from the left, after a share
    pub of_any : ℕ → Conds → ℕ
    of_any a no_conds = a
    of_any a (cond_and e es) = of_any (or_share a (selectivity e)) es

  -- what the condition of a number of a list multiplies with
  abbrev pub weight : List Cond → ℕ → ℕ
  weight es n = weight_or (range_weight es n) (selectivity (listed_condition es n))

  -- what those of some numbers multiply with
  abbrev pub weights : List Cond → List ℕ → List ℕ
  weights es ns = map (weight es) ns
