-- FROM names more and more relations, over the same catalogue.
use Rattle.std.proofs.Common.{◌≡◌, ◌≤◌, ◌+◌, ℕ, Bool, true, false, cond, nat_lt, length, List, [], ◌∷◌, ◌++◌, Option, Some, None, Result, Ok, Err, refl, subst, ◌∙◌, arith, length-append}
use Rattle.pg_base.specs.declared.faults.Fault.{Fault}
use Rattle.pg_base.specs.declared.numbers.TableNo.{TableNo}
use Rattle.pg_base.specs.declared.limits.TheConstants.{MOST_RELATIONS}
use Rattle.catalog.specs.Tables.{table_named}
use Rattle.sql_grammar.specs.Syntax.{Expr, Join, join_on, cross_join, Group, group_of}
use Rattle.expr_reader.specs.Conditions.{next}
use Rattle.query_reader.specs.declared.written.Source.{Source}
use Rattle.query_reader.specs.From.{Joined, alias_or, conjuncts_of_expr, is_taken, of_table, with_condition, with_group, with_groups, with_join, with_joins, with_relation}
use Rattle.query_reader.specs.Scope.{scope_after}
use Rattle.query_reader.specs.Written.{source_of}

-- by so many relations at least
pub record Grows (n : ℕ) (j i : Joined) : Type 0 where
  pub contents : i.contents ≡ j.contents
  pub more : n + length j.range ≤ length i.range

same-grows : (j i : Joined) → j ≡ i → Grows 0 j i
same-grows j i is = subst (Grows 0 j) is (record { contents = refl; more = omega arith })

then-grows : (n : ℕ) (j k i : Joined) → Grows n j k → Grows 0 k i → Grows n j i
then-grows n j k i a b = record { contents = b.contents ∙ a.contents; more = omega (arith, a.more, b.more) }

less-grows : (n : ℕ) (j i : Joined) → Grows n j i → Grows 0 j i
less-grows n j i a = record { contents = a.contents; more = omega (arith, a.more) }

under-grows : (taken : Bool) (j i : Joined) (t : TableNo) (alias : List ℕ) (f : Fault) → cond taken (Err f) (Ok (record j { range = j.range ++ (t, alias) ∷ [] })) ≡ Ok i → Grows 1 j i
under-grows true j i t alias f is = absurd (cc (is))
under-grows false j i t alias f is =
    let same : record j { range = j.range ++ (t, alias) ∷ [] } ≡ i = cc (is) in
    subst (Grows 1 j) same (record { contents = refl; more = omega (arith, length-append j.range ((t, alias) ∷ [])) })

table-grows : (found : Option TableNo) (j i : Joined) (source : Source) → of_table j found source ≡ Ok i → Grows 1 j i
table-grows None j i source is = absurd (cc (is))
table-grows (Some t) j i source is = under-grows (is_taken j.range (alias_or source.alias source.table).bytes) j i t (alias_or source.alias source.table).bytes _ is

room-grows : (room : Bool) (j i : Joined) (m : Result Joined Fault) (f : Fault) → (m ≡ Ok i → Grows 1 j i) → cond room m (Err f) ≡ Ok i → Grows 1 j i
room-grows true j i m f has is = has is
room-grows false j i m f has is = absurd (cc (is))

relation-grows : (j i : Joined) (source : Source) → with_relation j source ≡ Ok i → Grows 1 j i
relation-grows j i source is =
    room-grows (nat_lt (length j.range) MOST_RELATIONS) j i (of_table j (table_named j.contents source.table.bytes) source) _ (table-grows (table_named j.contents source.table.bytes) j i source) is

next-grows : (n : ℕ) (m : Result Joined Fault) (more : Joined → Result Joined Fault) (j i : Joined) → ((k : Joined) → m ≡ Ok k → Grows n j k) → ((k : Joined) → more k ≡ Ok i → Grows 0 k i) → next m more ≡ Ok i → Grows n j i
next-grows n (Ok k) more j i first later is = then-grows n j k i (first k refl) (later k is)
next-grows n (Err f) more j i first later is = absurd (cc (is))

condition-by : {A : Type 0} (m : Result A Fault) (j i : Joined) (more : A → Joined) → ((a : A) → Grows 0 j (more a)) → next m (λ a. Ok (more a)) ≡ Ok i → Grows 0 j i
condition-by (Ok a) j i more has is = let same : more a ≡ i = cc (is) in subst (Grows 0 j) same (has a)
condition-by (Err f) j i more has is = absurd (cc (is))

condition-grows : (first : ℕ) (j i : Joined) (e : Expr) → with_condition first j e ≡ Ok i → Grows 0 j i
condition-grows first j i e is = condition-by (conjuncts_of_expr (scope_after j.contents first j.range) _ e) j i _ (λ ks. record { contents = refl; more = omega arith }) is

join-grows : (first : ℕ) (j i : Joined) (x : Join) → with_join first j x ≡ Ok i → Grows 0 j i
join-grows first j i (join_on n k r o e) is =
    next-grows 0 (with_relation j (source_of r)) (λ k. with_condition first k e) j i (λ k at. less-grows 1 j k (relation-grows j k (source_of r) at)) (λ k at. condition-grows first k i e at) is
join-grows first j i (cross_join c k r) is = less-grows 1 j i (relation-grows j i (source_of r) is)

joins-grow : (first : ℕ) (j i : Joined) (js : List Join) → with_joins first j js ≡ Ok i → Grows 0 j i
joins-grow first j i [] is = same-grows j i (cc (is))
joins-grow first j i (x ∷ xs) is = next-grows 0 (with_join first j x) (λ k. with_joins first k xs) j i (λ k at. join-grows first j k x at) (λ k at. joins-grow first k i xs at) is

group-grows : (j i : Joined) (g : Group) → with_group j g ≡ Ok i → Grows 1 j i
group-grows j i (group_of r xs) is =
    next-grows 1 (with_relation j (source_of r)) (λ k. with_joins (length j.range) k xs) j i (λ k at. relation-grows j k (source_of r) at) (λ k at. joins-grow (length j.range) k i xs at) is

groups-grow : (j i : Joined) (gs : List Group) → with_groups j gs ≡ Ok i → Grows 0 j i
groups-grow j i [] is = same-grows j i (cc (is))
groups-grow j i (g ∷ gs) is = next-grows 0 (with_group j g) (λ k. with_groups k gs) j i (λ k at. less-grows 1 j k (group-grows j k g at)) (λ k at. groups-grow k i gs at) is

pub some-groups : (j i : Joined) (g : Group) (gs : List Group) → with_groups j (g ∷ gs) ≡ Ok i → Grows 1 j i
some-groups j i g gs is = next-grows 1 (with_group j g) (λ k. with_groups k gs) j i (λ k at. group-grows j k g at) (λ k at. groups-grow k i gs at) is
