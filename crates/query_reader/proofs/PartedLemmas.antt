-- The conjuncts of a SELECT have a part in each AND and in each OR.
use Rattle.std.proofs.Common.{◌≡◌, ℕ, ◌<◌, Bool, true, false, List, [], ◌∷◌, ◌++◌, length, cond, All, IfOk, Option, Some, None, Result, Ok, Err, refl, sym, ap, subst, arith}
use Rattle.std.proofs.lemmas.List.Elements.{All-append, All-cons, All-nil}
use Rattle.pg_base.specs.declared.faults.Fault.{Fault}
use Rattle.pg_base.specs.declared.faults.Limit.{Limit}
use Rattle.pg_base.specs.declared.faults.Refusal.{Refusal}
use Rattle.pg_base.specs.declared.limits.TheConstants.{MOST_RELATIONS}
use Rattle.pg_base.specs.declared.numbers.TableNo.{TableNo}
use Rattle.pg_value.specs.declared.value.SqlType.{SqlType}
use Rattle.pg_expr.specs.declared.operand.ColRef.{ColRef}
use Rattle.pg_expr.specs.Cond.{Cond, compare, is_null, is_not_null, bool_col, const, all_of, any_of, negation, Conds, no_conds, cond_and, joined}
use Rattle.pg_expr.specs.Conjuncts.{conjuncts_of, conjuncts_of_all}
use Rattle.catalog.specs.Contents.{Contents}
use Rattle.catalog.specs.Range.{Range, type_in}
use Rattle.catalog.specs.Tables.{table_named}
use Rattle.eq_classes.specs.Classes.{listed}
use Rattle.sql_lex.specs.declared.tokens.Token.{Token}
use Rattle.sql_grammar.specs.work.Faults.{IsWhole}
use Rattle.sql_grammar.specs.FromParts.{groups_after}
use Rattle.sql_grammar.specs.Syntax.{Expr, Join, join_on, cross_join, Group, group_of, Where, no_where, where_expr, select_from, OrderBy, WindowTree, WindowedSelect, windowed_select}
use Rattle.expr_reader.specs.declared.cursor.Spelled.{Spelled}
use Rattle.sql_query.specs.Queries.{Query}
use Rattle.expr_reader.specs.Conditions.{meaning_of_expr, next}
use Rattle.expr_reader.specs.work.Parted.{HasParts, HaveParts}
use Rattle.expr_reader.specs.Scope.{Scope}
use Rattle.expr_reader.proofs.PartedLemmas.{meaning-parted}
use Rattle.query_reader.specs.declared.written.Item.{Item}
use Rattle.query_reader.specs.declared.written.Source.{Source}
use Rattle.query_reader.specs.Binding.{Bound, bound_over, bound_from, bound_part, conjuncts_written, limited, list_columns, past_limit}
use Rattle.query_reader.specs.From.{Joined, alias_or, conjuncts_of_expr, is_taken, nothing_joined, of_table, under_alias, with_condition, with_group, with_groups, with_join, with_joins, with_relation}
use Rattle.query_reader.specs.Order.{order_items}
use Rattle.query_reader.specs.work.Parts.{IsSelectAt}
use Rattle.query_reader.specs.Scope.{scope_after, scope_of}
use Rattle.query_reader.specs.work.Select.{IsBoundAs, IsGrammatical}
use Rattle.query_reader.specs.Windows.{window_of}
use Rattle.query_reader.specs.Written.{item_of, items_of, source_of}
use Rattle.std.specs.Prelude.{nat_lt}

pub joined-parted : (cs ds : Conds) → HaveParts cs → HaveParts ds → HaveParts (joined cs ds)
joined-parted no_conds ds h g = g
joined-parted (cond_and c cs) ds h g = (h.0, joined-parted cs ds h.1 g)

mutual
  of-cond : (c : Cond) → HasParts c → HaveParts (conjuncts_of c)
  of-cond (all_of cs) h = of-conds cs h.1
  of-cond (any_of cs) h = (h, tt)
  of-cond (compare op l r) h = (h, tt)
  of-cond (is_null c) h = (h, tt)
  of-cond (is_not_null c) h = (h, tt)
  of-cond (bool_col c) h = (h, tt)
  of-cond (const t) h = (h, tt)
  of-cond (negation c) h = (h, tt)

  of-conds : (cs : Conds) → HaveParts cs → HaveParts (conjuncts_of_all cs)
  of-conds no_conds h = tt
  of-conds (cond_and c cs) h = joined-parted (conjuncts_of c) (conjuncts_of_all cs) (of-cond c h.0) (of-conds cs h.1)

pub conjuncts-parted : (c : Cond) → HasParts c → HaveParts (conjuncts_of c)
conjuncts-parted c h = of-cond c h

pub listed-parted : (cs : Conds) → HaveParts cs → All HasParts (listed cs)
listed-parted no_conds h = All-nil HasParts
listed-parted (cond_and c cs) h = All-cons HasParts c (listed cs) h.0 (listed-parted cs h.1)

-- conjuncts, where they are read
abbrev AreParted : Result (List Cond) Fault → Type 0
AreParted (Ok ks) = All HasParts ks
AreParted (Err f) = Unit {0}

condition-parted : (m : Result Cond Fault) → ((c : Cond) → m ≡ Ok c → HasParts c) → AreParted (next m (λ c. Ok (listed (conjuncts_of c))))
condition-parted (Ok c) parts = listed-parted (conjuncts_of c) (of-cond c (parts c refl))
condition-parted (Err f) parts = tt

expr-parted : (scope : Scope) (type_of : ColRef → SqlType) (e : Expr) → AreParted (conjuncts_of_expr scope type_of e)
expr-parted scope type_of e = condition-parted (meaning_of_expr scope type_of e) (λ c is. meaning-parted scope type_of e c is)

where-parted : (scope : Scope) (type_of : ColRef → SqlType) (w : Where) → AreParted (conjuncts_written scope type_of w)
where-parted scope type_of no_where = All-nil HasParts
where-parted scope type_of (where_expr k e) = expr-parted scope type_of e

-- the conjuncts of conditions of joins
abbrev IsParted : Result Joined Fault → Type 0
IsParted (Ok j) = All HasParts j.conjuncts
IsParted (Err f) = Unit {0}

then-parted : (m : Result Joined Fault) (more : Joined → Result Joined Fault) → IsParted m → ((i : Joined) → All HasParts i.conjuncts → IsParted (more i)) → IsParted (next m more)
then-parted (Ok i) more h each = each i h
then-parted (Err f) more h each = tt

alias-parted : (taken : Bool) (f : Fault) (j : Joined) → All HasParts j.conjuncts → IsParted (cond taken (Err f) (Ok j))
alias-parted true f j h = tt
alias-parted false f j h = h

table-parted : (j : Joined) (o : Option TableNo) (source : Source) → All HasParts j.conjuncts → IsParted (of_table j o source)
table-parted j None source h = tt
table-parted j (Some table) source h =
    let alias = alias_or source.alias source.table in
    alias-parted (is_taken j.range alias.bytes) _ (record j { range = j.range ++ (table, alias.bytes) ∷ [] }) h

some-parted : (few : Bool) (f : Fault) (m : Result Joined Fault) → IsParted m → IsParted (cond few m (Err f))
some-parted true f m h = h
some-parted false f m h = tt

relation-parted : (j : Joined) (source : Source) → All HasParts j.conjuncts → IsParted (with_relation j source)
relation-parted j source h =
    some-parted (nat_lt (length j.range) MOST_RELATIONS) _ (of_table j (table_named j.contents source.table.bytes) source) (table-parted j (table_named j.contents source.table.bytes) source h)

more-parted : (j : Joined) (m : Result (List Cond) Fault) → All HasParts j.conjuncts → AreParted m → IsParted (next m (λ ks. Ok (record j { conjuncts = j.conjuncts ++ ks })))
more-parted j (Ok ks) h more = All-append HasParts j.conjuncts ks h more
more-parted j (Err f) h more = tt

on-parted : (first : ℕ) (j : Joined) (e : Expr) → All HasParts j.conjuncts → IsParted (with_condition first j e)
on-parted first j e h = more-parted j (conjuncts_of_expr (scope_after j.contents first j.range) (type_in j.contents j.range) e) h (expr-parted _ _ e)

join-parted : (first : ℕ) (j : Joined) (x : Join) → All HasParts j.conjuncts → IsParted (with_join first j x)
join-parted first j (join_on i k r o e) h = then-parted (with_relation j (source_of r)) _ (relation-parted j (source_of r) h) (λ n m. on-parted first n e m)
join-parted first j (cross_join c k r) h = relation-parted j (source_of r) h

joins-parted : (first : ℕ) (j : Joined) (xs : List Join) → All HasParts j.conjuncts → IsParted (with_joins first j xs)
joins-parted first j [] h = h
joins-parted first j (x ∷ xs) h = then-parted (with_join first j x) _ (join-parted first j x h) (λ n m. joins-parted first n xs m)

group-parted : (j : Joined) (g : Group) → All HasParts j.conjuncts → IsParted (with_group j g)
group-parted j (group_of r xs) h = then-parted (with_relation j (source_of r)) _ (relation-parted j (source_of r) h) (λ n m. joins-parted (length j.range) n xs m)

groups-parted : (j : Joined) (gs : List Group) → All HasParts j.conjuncts → IsParted (with_groups j gs)
groups-parted j [] h = h
groups-parted j (g ∷ gs) h = then-parted (with_group j g) _ (group-parted j g h) (λ n m. groups-parted n gs m)

-- the conjuncts of what is bound
abbrev IsBoundParted : Result Bound Fault → Type 0
IsBoundParted (Ok b) = All HasParts b.where_all
IsBoundParted (Err f) = Unit {0}

next-parted : {A : Type 0} (m : Result A Fault) (more : A → Result Bound Fault) → ((a : A) → IsBoundParted (more a)) → IsBoundParted (next m more)
next-parted (Ok a) more each = each a
next-parted (Err f) more each = tt

with-parted : (m : Result (List Cond) Fault) (more : List Cond → Result Bound Fault) → AreParted m → ((ks : List Cond) → All HasParts ks → IsBoundParted (more ks)) → IsBoundParted (next m more)
with-parted (Ok ks) more h each = each ks h
with-parted (Err f) more h each = tt

over-parted : (m : Result Joined Fault) (more : Joined → Result Bound Fault) → IsParted m → ((j : Joined) → All HasParts j.conjuncts → IsBoundParted (more j)) → IsBoundParted (next m more)
over-parted (Ok j) more h each = each j h
over-parted (Err f) more h each = tt

limited-parted : (start : Token) (o : Option Limit) (b : Bound) → All HasParts b.where_all → IsBoundParted (limited start o b)
limited-parted start None b h = h
limited-parted start (Some l) b h = tt

bound-parted : (start : Token) (items : List Item) (w : Where) (y : OrderBy) (v : WindowTree) (j : Joined) → All HasParts j.conjuncts → IsBoundParted (bound_over start items w y v j)
bound-parted start items w y v j h =
    let scope = scope_of j.contents j.range in
    with-parted (conjuncts_written scope (type_in j.contents j.range) w) _ (where-parted scope (type_in j.contents j.range) w)
    (λ ks parts. next-parted (list_columns scope items) _
    (λ cs. next-parted (order_items scope cs y) _
    (λ os. next-parted (window_of v) _
    (λ rows. limited-parted start (past_limit (j.conjuncts ++ ks)) _ (All-append HasParts j.conjuncts ks h parts)))))

pub part-parted : (c : Contents) (start : Token) (x : WindowedSelect) → IsBoundParted (bound_part c start x)
part-parted c start (windowed_select (select_from k o os f g gs w) y v) =
    over-parted (with_groups (nothing_joined c) (g ∷ groups_after gs)) _ (groups-parted (nothing_joined c) (g ∷ groups_after gs) (All-nil HasParts)) (λ j h. bound-parted start (item_of o ∷ items_of os) w y v j h)

read-parted : (m : Result Bound Fault) (q : Query) → IsBoundParted m → IsBoundAs m (Ok q) → All HasParts q.where_all
read-parted (Ok b) q h is = subst (All HasParts) (sym (ap (λ (x : Query). x.where_all) is)) h
read-parted (Err f) q h is = absurd is

-- the conjuncts of a SELECT that is read
pub select-parted : (c : Contents) (text : List ℕ) (tokens : List Token) (first : ℕ) (r : Result Query Refusal) → first < length tokens → IsGrammatical text tokens first r →
    ((x : WindowedSelect) (start : Token) (later : List Token) → tokens ≡ start ∷ later → IsWhole text tokens → IsSelectAt text tokens first x → IsBoundAs (bound_part c start x) r) → IfOk r (λ q. All HasParts q.where_all)
select-parted c text [] first r within g binds = absurd (omega (arith, within))
select-parted c text (t ∷ ts) first (Ok q) within g binds =
    let (x, at) = g.select in
    read-parted (bound_part c t x) q (part-parted c t x) (binds x t ts refl g.whole at)
select-parted c text (t ∷ ts) first (Err e) within g binds = tt
