-- The sizes of a table of lawful contents are at most the greatest number that a statement may give.
use Rattle.std.proofs.Common.{◌≡◌, ◌≤◌, ℕ, Option, None, Some, arith, true, nat_le}
use Rattle.std.proofs.lemmas.Bool.Decides.{nat_tests}
use Rattle.std.proofs.lemmas.Bool.{and_parts}
use Rattle.pg_base.specs.declared.numbers.TableNo.{TableNo}
use Rattle.catalog.specs.Contents.{Contents, AreSizes, IsLawful, IsTable, no_table, table_at}
use Rattle.catalog.specs.Statistics.{is_count}
use Rattle.catalog.specs.Tables.{pages_by, pages_of, rows_by, rows_of}
use Rattle.catalog.specs.declared.limits.TheConstants.{MOST_NUMBER}
use Rattle.catalog.specs.declared.table.Sizes.{Sizes}

counted : (n : ℕ) → is_count n ≡ true → n ≤ MOST_NUMBER
counted n h = let last = (and_parts (nat_le 1 n) (nat_le n MOST_NUMBER) h).1 in grind (arith, nat_tests)

most-rows : (loaded : ℕ) (sizes : Option Sizes) → AreSizes sizes → loaded ≤ MOST_NUMBER → rows_by loaded sizes ≤ MOST_NUMBER
most-rows loaded None h few = omega (arith, few)
most-rows loaded (Some s) h few = counted s.rows h.rows

most-pages : (loaded : ℕ) (sizes : Option Sizes) → AreSizes sizes → loaded ≤ MOST_NUMBER → pages_by loaded sizes ≤ MOST_NUMBER
most-pages loaded None h few = omega (arith, few)
most-pages loaded (Some s) h few = counted s.pages h.pages

pub rows-bounded : (c : Contents) (t : TableNo) → IsLawful c → IsTable c t → (table_at c t).loaded ≤ MOST_NUMBER → rows_of c t ≤ MOST_NUMBER
rows-bounded c t h there few = most-rows (table_at c t).loaded (table_at c t).sizes (h.tables t.0 no_table there).sizes few

pub pages-bounded : (c : Contents) (t : TableNo) → IsLawful c → IsTable c t → (table_at c t).loaded ≤ MOST_NUMBER → pages_of c t ≤ MOST_NUMBER
pages-bounded c t h there few = most-pages (table_at c t).loaded (table_at c t).sizes (h.tables t.0 no_table there).sizes few
