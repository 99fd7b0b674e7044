-- The relations that FROM names, and the conditions of its joins.
use Rattle.std.proofs.Common.{◌≡◌, ◌++◌, ◌∷◌, [], ◌∙◌, ℕ, List, Bool, true, false, nat_lt, cond, length, All, Option, Some, None, Result, Ok, Err, refl, sym, ap, subst, arith}
use Rattle.std.proofs.lemmas.List.Elements.{All-append, All-nil}
use Rattle.pg_base.specs.declared.faults.Fault.{Fault}
use Rattle.pg_base.specs.declared.limits.TheConstants.{MOST_RELATIONS}
use Rattle.pg_base.specs.declared.numbers.TableNo.{TableNo}
use Rattle.pg_expr.specs.Columns.{each_column, each_column_of}
use Rattle.pg_expr.specs.Cond.{Cond, Conds, no_conds, cond_and, conds_of}
use Rattle.pg_expr.specs.Conjuncts.{conjuncts_of}
use Rattle.pg_expr.specs.Typed.{AreTyped, IsTyped}
use Rattle.pg_expr.proofs.KeptLaws.{conjuncts-each, conjuncts-typed}
use Rattle.eq_classes.specs.Classes.{listed}
use Rattle.eq_classes.proofs.ListLemmas.{all_at, all_from}
use Rattle.catalog.specs.Contents.{Contents, IsLawful, IsTable, no_table}
use Rattle.catalog.specs.Range.{Range, type_in}
use Rattle.catalog.specs.Tables.{table_named}
use Rattle.path_cost.specs.work.Columns.{IsOver, is_column_in}
use Rattle.sql_grammar.specs.Syntax.{Expr, Group, group_of, Join, join_on, cross_join}
use Rattle.expr_reader.specs.Conditions.{meaning_of_expr, next}
use Rattle.expr_reader.proofs.TypedLemmas.{expr-good, next-done}
use Rattle.ddl_reader.proofs.SoundStatisticsLemmas.{known-table}
use Rattle.query_reader.specs.From.{Joined, alias_or, conjuncts_of_expr, is_taken, nothing_joined, of_table, with_condition, with_group, with_groups, with_join, with_joins, with_relation}
use Rattle.query_reader.specs.work.From.{AreRelations}
use Rattle.query_reader.specs.Scope.{scope_after}
use Rattle.query_reader.specs.Written.{source_of}
use Rattle.query_reader.specs.declared.written.Source.{Source}
use Rattle.query_reader.proofs.BoundLemmas.{all-seen}
use Rattle.query_reader.proofs.ConjunctLemmas.{pass-all, typed-all}
use Rattle.query_reader.proofs.SourceLemmas.{all-over-more, more-relations}

-- relations of a lawful catalogue, and conditions over them
pub record IsJoined (j : Joined) : Type 0 where
  pub lawful : IsLawful j.contents
  pub are : AreRelations j.contents j.range
  pub over : All (IsOver j.contents j.range) j.conjuncts

conds-listed : (cs : Conds) → conds_of (listed cs) ≡ cs
conds-listed no_conds = refl
conds-listed (cond_and c cs) = ap (cond_and c) (conds-listed cs)

parts-over : (c : Contents) (range : Range) (e : Cond) → each_column (is_column_in c range) e ≡ true → IsTyped (type_in c range) e → All (IsOver c range) (listed (conjuncts_of e))
parts-over c range e columns typed =
    let test = is_column_in c range in
    let ks = listed (conjuncts_of e) in
    let passed = pass-all test ks (ap (each_column_of test) (conds-listed (conjuncts_of e)) ∙ conjuncts-each test e ∙ columns) in
    let fine = typed-all (type_in c range) ks (subst (AreTyped (type_in c range)) (sym (conds-listed (conjuncts_of e))) (conjuncts-typed (type_in c range) e typed)) in
    all_from (IsOver c range) ks (λ k i. record { columns = all_at (λ (x : Cond). each_column test x ≡ true) ks passed k i; typed = all_at (IsTyped (type_in c range)) ks fine k i })

-- the conjuncts of a condition over visible relations are over all
pub conjuncts-over : (c : Contents) (range : Range) (first : ℕ) (e : Expr) (ks : List Cond) → AreRelations c range → conjuncts_of_expr (scope_after c first range) (type_in c range) e ≡ Ok ks → All (IsOver c range) ks
conjuncts-over c range first e ks are is =
    let d = next-done (meaning_of_expr (scope_after c first range) (type_in c range) e) (λ x. Ok (listed (conjuncts_of x))) ks is in
    let good = expr-good (scope_after c first range) (type_in c range) (is_column_in c range) (all-seen c range first are.lawful) e d.value d.first in
    let same : listed (conjuncts_of d.value) ≡ ks = cc (d.rest) in
    subst (All (IsOver c range)) same (parts-over c range d.value good.1 good.0)

under-joined : (taken : Bool) (j i : Joined) (t : TableNo) (alias : List ℕ) (f : Fault) → is_taken j.range alias ≡ taken → nat_lt (length j.range) MOST_RELATIONS ≡ true → IsTable j.contents t → IsJoined j →
    cond taken (Err f) (Ok (record j { range = j.range ++ (t, alias) ∷ [] })) ≡ Ok i → IsJoined i
under-joined true j i t alias f free room there h is = absurd (cc (is))
under-joined false j i t alias f free room there h is =
    let same : record j { range = j.range ++ (t, alias) ∷ [] } ≡ i = cc (is) in
    subst IsJoined same (record {
      lawful = h.lawful;
      are = more-relations j.contents j.range t alias h.are room there (h.lawful.tables t.0 no_table there) free;
      over = all-over-more j.contents j.range t alias j.conjuncts h.over;
    })

table-joined : (found : Option TableNo) (j i : Joined) (source : Source) → table_named j.contents source.table.bytes ≡ found → nat_lt (length j.range) MOST_RELATIONS ≡ true → IsJoined j → of_table j found source ≡ Ok i → IsJoined i
table-joined None j i source found room h is = absurd (cc (is))
table-joined (Some t) j i source found room h is =
    let alias = (alias_or source.alias source.table).bytes in
    under-joined (is_taken j.range alias) j i t alias _ refl room (known-table j.contents [] source.table.bytes t _ refl found) h is

room-joined : (room : Bool) (j i : Joined) (source : Source) (f : Fault) → nat_lt (length j.range) MOST_RELATIONS ≡ room → IsJoined j → cond room (of_table j (table_named j.contents source.table.bytes) source) (Err f) ≡ Ok i → IsJoined i
room-joined true j i source f room h is = table-joined (table_named j.contents source.table.bytes) j i source refl room h is
room-joined false j i source f room h is = absurd (cc (is))

relation-joined : (j i : Joined) (source : Source) → IsJoined j → with_relation j source ≡ Ok i → IsJoined i
relation-joined j i source h is = room-joined (nat_lt (length j.range) MOST_RELATIONS) j i source _ refl h is

condition-joined : (first : ℕ) (j i : Joined) (e : Expr) → IsJoined j → with_condition first j e ≡ Ok i → IsJoined i
condition-joined first j i e h is =
    let d = next-done (conjuncts_of_expr (scope_after j.contents first j.range) (type_in j.contents j.range) e) (λ ks. Ok (record j { conjuncts = j.conjuncts ++ ks })) i is in
    let same : record j { conjuncts = j.conjuncts ++ d.value } ≡ i = cc (d.rest) in
    subst IsJoined same (record {
      lawful = h.lawful;
      are = h.are;
      over = All-append (IsOver j.contents j.range) j.conjuncts d.value h.over (conjuncts-over j.contents j.range first e d.value h.are d.first);
    })

next-joined : (m : Result Joined Fault) (more : Joined → Result Joined Fault) (i : Joined) → ((k : Joined) → m ≡ Ok k → IsJoined k) → ((k : Joined) → IsJoined k → more k ≡ Ok i → IsJoined i) → next m more ≡ Ok i → IsJoined i
next-joined (Ok k) more i first later is = later k (first k refl) is
next-joined (Err f) more i first later is = absurd (cc (is))

join-joined : (first : ℕ) (j i : Joined) (x : Join) → IsJoined j → with_join first j x ≡ Ok i → IsJoined i
join-joined first j i (join_on n k r o e) h is =
    next-joined (with_relation j (source_of r)) (λ k. with_condition first k e) i (λ k at. relation-joined j k (source_of r) h at) (λ k g at. condition-joined first k i e g at) is
join-joined first j i (cross_join c k r) h is = relation-joined j i (source_of r) h is

joins-joined : (first : ℕ) (j i : Joined) (js : List Join) → IsJoined j → with_joins first j js ≡ Ok i → IsJoined i
joins-joined first j i [] h is = let same : j ≡ i = cc (is) in subst IsJoined same h
joins-joined first j i (x ∷ xs) h is = next-joined (with_join first j x) (λ k. with_joins first k xs) i (λ k at. join-joined first j k x h at) (λ k g at. joins-joined first k i xs g at) is

group-joined : (j i : Joined) (g : Group) → IsJoined j → with_group j g ≡ Ok i → IsJoined i
group-joined j i (group_of r xs) h is =
    next-joined (with_relation j (source_of r)) (λ k. with_joins (length j.range) k xs) i (λ k at. relation-joined j k (source_of r) h at) (λ k g at. joins-joined (length j.range) k i xs g at) is

pub groups-joined : (j i : Joined) (gs : List Group) → IsJoined j → with_groups j gs ≡ Ok i → IsJoined i
groups-joined j i [] h is = let same : j ≡ i = cc (is) in subst IsJoined same h
groups-joined j i (g ∷ gs) h is = next-joined (with_group j g) (λ k. with_groups k gs) i (λ k at. group-joined j k g h at) (λ k f at. groups-joined k i gs f at) is

pub nothing-is : (c : Contents) → IsLawful c → IsJoined (nothing_joined c)
nothing-is c lawful = record {
  lawful = lawful;
  are = record {
    few = omega arith;
    tables = λ k d lt. absurd (omega (arith, lt));
    lawful = λ k d lt. absurd (omega (arith, lt));
    distinct = λ k l d before lt. absurd (omega (arith, before, lt));
  };
  over = All-nil (IsOver c []);
}
