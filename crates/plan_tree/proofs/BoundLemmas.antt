-- Estimates are at least 1; a plan costs at least what each child does, and before its first row no more than in all.
use Rattle.std.proofs.Common.{◌≡◌, ◌≤◌, ℕ, ◌+◌, ◌*◌, List, [], ◌∷◌, length, arith, le_refl}
use Rattle.std.proofs.Common.{◌<◌, ◌⊎◌, inl, inr, subst, sym, true, nat_le}
use Rattle.std.proofs.lemmas.Bool.{and_parts, cases_lt}
use Rattle.std.proofs.lemmas.Bool.Decides.{nat_tests}
use Rattle.std.proofs.lemmas.List.{get_or_past}
use Rattle.std.specs.Prelude.{Option, Some, None}
use Rattle.pg_base.specs.declared.numbers.TableNo.{TableNo}
use Rattle.sql_query.specs.catalog_Statistics.{is_count}
use Rattle.sql_query.specs.catalog_Tables.{rows_by, rows_of}
use Rattle.sql_query.specs.catalog_limits_TheConstants.{MOST_NUMBER}
use Rattle.sql_query.specs.catalog_table_Sizes.{Sizes}
use Rattle.sql_query.specs.catalog_Contents.{Contents, TableDef, AreSizes, IsLawful, no_table, table_at}
use Rattle.sql_query.specs.catalog_Range.{relation_at}
use Rattle.cost_rules.specs.Powers.{clamped}
use Rattle.cost_rules.proofs.RisingLemmas.{sort-startup, nest-startup, merge-startup, sort-child, nest-children, merge-children}
use Rattle.eq_classes.specs.Clauses.{Set}
use Rattle.sql_query.specs.Queries.{Query}
use Rattle.sql_query.specs.declared.window.Window.{Window}
use Rattle.path_cost.specs.Estimates.{pairs, set_rows}
use Rattle.pathkeys.specs.Keys.{Keys}
use Rattle.plan_tree.specs.Plans.{Plan, seq, index, index_only, bitmap, sort, nest, merge, set_of, GivenScan, given_scan}
use Rattle.plan_tree.specs.Costs.{cost, estimate, rows_given, join_operators, merge_operators, asked, asked_by}
use Rattle.plan_tree.specs.work.Costs.{HaveRows}
use Rattle.path_cost.proofs.LimitLemmas.{some-sized}

pub some-clamped : (n : ℕ) → 1 ≤ clamped n
some-clamped n = omega arith

-- a sum is at least its first part
first-of-three : (a b c : ℕ) → a ≤ a + b + c
first-of-three a b c = omega arith

first-of-five : (a b c d e : ℕ) → a ≤ a + b + c + d + e
first-of-five a b c d e = omega arith

module _ (c : Contents) (q : Query) (some : HaveRows c q) where
  some-given : (set : Set) (g : Option GivenScan) → 1 ≤ rows_given c q set g
  some-given set None = some-clamped _
  some-given set (Some s) = some-clamped _

  pub some-estimated : (p : Plan) → 1 ≤ estimate c q p
  some-estimated p = some-given (set_of p) (given_scan p)

  pub startup-most : (p : Plan) → (cost c q p).startup ≤ (cost c q p).total
  startup-most (seq r) = omega arith
  startup-most (index r i backward p) = first-of-five _ _ _ _ _
  startup-most (index_only r i backward p) = first-of-five _ _ _ _ _
  startup-most (bitmap r p bits) = first-of-three _ _ _
  startup-most (sort keys input) = sort-startup (cost c q input) (set_rows c q.range q.classes (set_of input))
  startup-most (nest outer inner) = nest-startup (cost c q outer) (cost c q inner) (estimate c q outer) (estimate c q inner) (join_operators q outer inner) (some-estimated outer) (startup-most outer) (startup-most inner)
  startup-most (merge keys outer inner) = merge-startup (cost c q outer) (cost c q inner) (estimate c q outer) (estimate c q inner) (length keys) (pairs c q.range q.classes (set_of outer) (set_of inner) keys) (merge_operators q keys outer inner) (startup-most outer) (startup-most inner)

  pub nest-most : (outer inner : Plan) → ((cost c q outer).total ≤ (cost c q (nest outer inner)).total) × ((cost c q inner).total ≤ (cost c q (nest outer inner)).total)
  nest-most outer inner = nest-children (cost c q outer) (cost c q inner) (estimate c q outer) (estimate c q inner) (join_operators q outer inner) (some-estimated outer)

pub sort-most : (c : Contents) (q : Query) (keys : Keys) (input : Plan) → (cost c q input).total ≤ (cost c q (sort keys input)).total
sort-most c q keys input = sort-child (cost c q input) (set_rows c q.range q.classes (set_of input))

pub merge-most : (c : Contents) (q : Query) (keys : Keys) (outer inner : Plan) → ((cost c q outer).total ≤ (cost c q (merge keys outer inner)).total) × ((cost c q inner).total ≤ (cost c q (merge keys outer inner)).total)
merge-most c q keys outer inner = merge-children (cost c q outer) (cost c q inner) (estimate c q outer) (estimate c q inner) (length keys) (pairs c q.range q.classes (set_of outer) (set_of inner) keys) (merge_operators q keys outer inner)

asked-by-most : (limit : Option ℕ) (offset n : ℕ) → asked_by limit offset n ≤ n
asked-by-most None offset n = le_refl n
asked-by-most (Some limit) offset n = omega arith

-- no more rows are asked for than there are
pub asked-most : (w : Window) (n : ℕ) → asked w n ≤ n
asked-most w n = asked-by-most w.limit w.offset n

counted : (n : ℕ) → is_count n ≡ true → 1 ≤ n
counted n h = let first = (and_parts (nat_le 1 n) (nat_le n MOST_NUMBER) h).0 in grind (arith, nat_tests)

some-sizes : (c : Contents) (t : TableNo) → IsLawful c → (t.0 < length c.tables) ⊎ (length c.tables ≤ t.0) → 1 ≤ rows_of c t
some-sizes c t h (inl there) = some-sized (table_at c t).loaded (table_at c t).sizes (h.tables t.0 no_table there).sizes
some-sizes c t h (inr past) = let P : TableDef → Type 0 = λ d. 1 ≤ rows_by d.loaded d.sizes in subst P (sym (get_or_past c.tables t.0 no_table past)) (omega arith)

-- the tables of lawful contents have rows, and so has what stands where a number is none of a table
pub lawful-rows : (c : Contents) (q : Query) → IsLawful c → HaveRows c q
lawful-rows c q h r = let t = (relation_at q.range (record { 0 = r })).0 in some-sizes c t h (cases_lt t.0 (length c.tables))
