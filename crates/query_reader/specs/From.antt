-- What FROM means: its relations from the left, and the conditions of its joins, each bound right behind its relation
-- (PostgreSQL manual, chapter Queries, The FROM Clause, and SELECT, FROM Clause; codes: appendix Error Codes; the limit is
-- own).
use Rattle.std.specs.Prelude.{ℕ, Bool, nat_lt, cond, List, [], ◌∷◌, ◌++◌, length, Option, Some, None, Result, Ok, Err}
use Rattle.std.specs.List.{list_any}
use Rattle.std.specs.Str.{bytes_eq}
use Rattle.pg_base.specs.declared.numbers.TableNo.{TableNo}
use Rattle.pg_base.specs.declared.faults.Code.TheVariants.{S2, S7, S15}
use Rattle.pg_base.specs.declared.faults.Fault.{Fault}
use Rattle.pg_base.specs.declared.faults.Limit.TheVariants.{Relations}
use Rattle.pg_base.specs.declared.limits.TheConstants.{MOST_RELATIONS}
use Rattle.pg_value.specs.declared.value.SqlType.{SqlType}
use Rattle.pg_expr.specs.declared.operand.ColRef.{ColRef}
use Rattle.pg_expr.specs.Cond.{Cond}
use Rattle.pg_expr.specs.Conjuncts.{conjuncts_of}
use Rattle.catalog.specs.Contents.{Contents}
use Rattle.catalog.specs.Range.{Range, type_in}
use Rattle.catalog.specs.Tables.{table_named}
use Rattle.eq_classes.specs.Classes.{listed}
use Rattle.sql_grammar.specs.Faults.{fault_at}
use Rattle.sql_grammar.specs.Syntax.{Expr, Join, join_on, cross_join, Group, group_of}
use Rattle.expr_reader.specs.declared.cursor.Spelled.{Spelled}
use Rattle.expr_reader.specs.Conditions.{meaning_of_expr, next}
use Rattle.expr_reader.specs.Scope.{Scope}
use Rattle.query_reader.specs.declared.written.Source.{Source}
use Rattle.query_reader.specs.Scope.{scope_after}
use Rattle.query_reader.specs.Written.{source_of}

-- the relations that FROM has named so far, over the contents of a catalogue, and the conjuncts of its conditions as written
pub record Joined : Type 0 where
  pub contents : Contents
  pub range : Range
  pub conjuncts : List Cond

-- nothing is named yet
abbrev pub nothing_joined : Contents → Joined
nothing_joined c = record { contents = c; range = []; conjuncts = [] }

-- the conjuncts of a condition as written: the parts of an AND, else the condition itself
abbrev pub conjuncts_of_expr : Scope → (ColRef → SqlType) → Expr → Result (List Cond) Fault
conjuncts_of_expr scope type_of e = next (meaning_of_expr scope type_of e) (λ c. Ok (listed (conjuncts_of c)))

-- the alias that is given, else the table's name
abbrev pub alias_or : Option Spelled → Spelled → Spelled
alias_or None table = table
alias_or (Some alias) table = alias

-- a relation has an alias
abbrev pub is_taken : Range → List ℕ → Bool
is_taken range alias = list_any (λ r. bytes_eq alias r.1) range

-- one more relation, of a table under an alias
abbrev pub under_alias : Joined → TableNo → Spelled → Result Joined Fault
under_alias j table alias = cond (is_taken j.range alias.bytes) (Err (fault_at S7 alias.token)) (Ok (record j { range = j.range ++ (table, alias.bytes) ∷ [] }))

-- one more relation, where its table's name was looked up; an error at that name where there is no such table
abbrev pub of_table : Joined → Option TableNo → Source → Result Joined Fault
of_table j None source = Err (fault_at S2 source.table.token)
of_table j (Some table) source = under_alias j table (alias_or source.alias source.table)

-- one more relation: an error at its name where there are too many, over all groups, else where there is no such table, else at
-- its alias, or at its name where none is given, where an earlier relation has it
abbrev pub with_relation : Joined → Source → Result Joined Fault
with_relation j source =
    cond (nat_lt (length j.range) MOST_RELATIONS) (of_table j (table_named j.contents source.table.bytes) source) (Err (fault_at (S15 Relations) source.table.token))

-- a condition over the relations of the group that begins with relation `first`, up to the last one
abbrev pub with_condition : ℕ → Joined → Expr → Result Joined Fault
with_condition first j e =
    next (conjuncts_of_expr (scope_after j.contents first j.range) (type_in j.contents j.range) e) (λ ks. Ok (record j { conjuncts = j.conjuncts ++ ks }))

-- a join in that group: its relation, then its condition where it has one
abbrev pub with_join : ℕ → Joined → Join → Result Joined Fault
with_join first j (join_on _ _ r _ e) = next (with_relation j (source_of r)) (λ i. with_condition first i e)
with_join first j (cross_join _ _ r) = with_relation j (source_of r)

-- joins in that group from the left: a condition sees no relation that a later join adds
abbrev pub with_joins : ℕ → Joined → List Join → Result Joined Fault
with_joins first j [] = Ok j
with_joins first j (x ∷ xs) = next (with_join first j x) (λ i. with_joins first i xs)

-- a group: its first relation, then its joins
abbrev pub with_group : Joined → Group → Result Joined Fault
with_group j (group_of r xs) = next (with_relation j (source_of r)) (λ i. with_joins (length j.range) i xs)

-- groups from the left
abbrev pub with_groups : Joined → List Group → Result Joined Fault
with_groups j [] = Ok j
with_groups j (g ∷ gs) = next (with_group j g) (λ i. with_groups i gs)
