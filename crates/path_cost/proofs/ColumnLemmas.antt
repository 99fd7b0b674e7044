-- Columns of relations are columns of tables, and what is known of them is lawful.
use Rattle.std.proofs.Common.{◌≡◌, ◌<◌, ◌≤◌, ◌^◌, ◌&&◌, sym, subst, zero, suc, arith, length, nat_lt, [], ◌∷◌, ℕ, List, slice_index_or}
use Rattle.std.specs.Prelude.{IsTrue, Option, Some, None}
use Rattle.std.specs.List.{AllZip}
use Rattle.std.proofs.lemmas.Grind.{common_steps}
use Rattle.pg_base.specs.declared.numbers.TableNo.{TableNo}
use Rattle.pg_base.specs.declared.numbers.ColNo.{ColNo}
use Rattle.pg_value.specs.declared.columns.Column.{Column}
use Rattle.pg_value.specs.declared.value.SqlType.{SqlType}
use Rattle.pg_expr.specs.declared.operand.ColRef.{ColRef}
use Rattle.catalog.specs.Contents.{Contents, IsColumn, IsKnown, IsLawful, IsTable, stats_at, table_at}
use Rattle.catalog.specs.Indexes.{no_column}
use Rattle.catalog.specs.Range.{Range, table_of, type_in}
use Rattle.catalog.specs.Statistics.{Statistics, IsLawfulStatistics}
use Rattle.path_cost.specs.Columns.{stats_or}
use Rattle.path_cost.specs.work.Columns.{AreTables, is_column_in}
use Rattle.path_cost.specs.work.Known.{IsLawfulKnown, statistics_of}
use Rattle.path_cost.specs.declared.known.Known.{Known}

in-range : (a b n m : ℕ) → IsTrue (nat_lt a n && nat_lt b m) → (a < n) × (b < m)
in-range a b n m h = (grind (arith, common_steps, h), grind (arith, common_steps, h))

pub column_laws : (c : Contents) (range : Range) (x : ColRef) → AreTables c range → IsTrue (is_column_in c range x) → (x.rel.0 < length range) × IsTable c (table_of range x) × IsColumn c (table_of range x) x.col
column_laws c range x tables h =
    let both = in-range x.rel.0 x.col.0 (length range) (length (table_at c (table_of range x)).columns) h in
    (both.0, tables x.rel.0 _ both.0, both.1)

-- what is known of a column in a list of what is known of each is lawful
known-lawful : (columns : List Column) (stats : List (Option Statistics)) (n : ℕ) (s : Statistics) → AllZip IsKnown columns stats → slice_index_or stats n None ≡ Some s → IsLawfulStatistics (slice_index_or columns n no_column).typed s
known-lawful [] [] n s h e = absurd (no-some n s e)
  where
    no-some : (n : ℕ) (s : Statistics) → slice_index_or [] n None ≡ Some s → ⊥
    no-some zero s e = cc
    no-some (suc n) s e = cc
known-lawful [] (o ∷ os) n s h e = absurd h
known-lawful (x ∷ xs) [] n s h e = absurd h
known-lawful (x ∷ xs) (o ∷ os) zero s h e = subst (IsKnown x) e h.0
known-lawful (x ∷ xs) (o ∷ os) (suc n) s h e = known-lawful xs os n s h.1 e

pub stats_lawful : (c : Contents) (t : TableNo) (x : ColNo) (s : Statistics) → IsLawful c → IsTable c t → stats_at c t x ≡ Some s → IsLawfulStatistics (slice_index_or (table_at c t).columns x.0 no_column).typed s
stats_lawful c t x s h within e = known-lawful (table_at c t).columns (table_at c t).stats x.0 s (h.tables t.0 _ within).stats e

pub nulls_most : (c : Contents) (t : TableNo) (x : ColNo) (s : Statistics) → IsLawful c → IsTable c t → stats_at c t x ≡ Some s → s.nulls ≤ 10 ^ 6
nulls_most c t x s h within e = omega (arith, (stats_lawful c t x s h within e).whole)

pub lent_lawful : (c : Contents) (range : Range) (x : ColRef) (k : Known) (s : Statistics) → IsLawful c → IsTable c (table_of range x) → stats_at c (table_of range x) x.col ≡ Some s → statistics_of k ≡ s → k.typed ≡ type_in c range x → IsLawfulKnown k
lent_lawful c range x k s h within e same typed = subst (λ t. IsLawfulStatistics t (statistics_of k)) (sym typed) (subst (IsLawfulStatistics (type_in c range x)) (sym same) (stats_lawful c (table_of range x) x.col s h within e))

-- with no statistics, some are taken that are lawful
pub unknown_lawful : (t : SqlType) (rows : ℕ) → 1 ≤ rows → IsLawfulStatistics t (stats_or rows None)
unknown_lawful t rows some = record {
  some = omega (arith, some);
  most = omega arith;
  few = omega arith;
  within = omega arith;
  different = λ i j d less within. absurd (omega (arith, within));
  shared = λ i x within. absurd (omega (arith, within));
  whole = omega arith;
  bounds = omega arith;
  two = λ e. absurd (omega (arith, e));
  rising = λ n within. absurd (omega (arith, within));
  values = record { common = λ i x within. absurd (omega (arith, within)); histogram = λ i x within. absurd (omega (arith, within)) };
}
