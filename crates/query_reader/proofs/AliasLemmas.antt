-- The names of a statement within the limits are names in small letters, and so are the aliases of its relations.
use Rattle.std.proofs.Common.{◌≡◌, ℕ, Bool, true, false, cond, nat_lt, length, All, List, [], ◌∷◌, ◌++◌, Option, Some, None, Result, Ok, Err, refl, sym, subst}
use Rattle.std.proofs.lemmas.List.Elements.{All-append, All-cons, All-nil}
use Rattle.pg_base.specs.declared.faults.Fault.{Fault}
use Rattle.pg_base.specs.declared.numbers.TableNo.{TableNo}
use Rattle.pg_base.specs.declared.limits.TheConstants.{MOST_RELATIONS}
use Rattle.pg_base.specs.Names.{IsName}
use Rattle.catalog.specs.Range.{Range}
use Rattle.catalog.specs.Tables.{table_named}
use Rattle.sql_grammar.specs.FromParts.{groups_after}
use Rattle.sql_grammar.specs.Terminals.{Terminal}
use Rattle.sql_grammar.specs.Syntax.{Mark, Where, OrderBy, WindowTree, no_alias, bare_alias, as_alias, Expr, Relation, relation, no_inner, inner, Join, join_on, cross_join, Group, group_of}
use Rattle.sql_grammar.specs.Words.{words_of_group, words_of_groups, words_of_join, words_of_joins, words_of_relation}
use Rattle.expr_reader.specs.declared.cursor.Spelled.{Spelled}
use Rattle.expr_reader.proofs.Named.{AreNamed}
use Rattle.expr_reader.specs.Conditions.{next}
use Rattle.query_reader.specs.declared.written.Source.{Source}
use Rattle.std.specs.Result.{IfOk}
use Rattle.pg_base.specs.declared.faults.Refusal.{Refusal}
use Rattle.catalog.specs.Contents.{Contents}
use Rattle.sql_lex.specs.declared.tokens.Token.{Token}
use Rattle.sql_query.specs.Queries.{Query}
use Rattle.query_reader.specs.declared.written.Item.{Item}
use Rattle.query_reader.specs.Binding.{bound_from, bound_over}
use Rattle.query_reader.specs.work.Select.{IsBoundAs}
use Rattle.query_reader.proofs.QueryLemmas.{over-range}
use Rattle.query_reader.specs.From.{Joined, nothing_joined, alias_or, conjuncts_of_expr, is_taken, of_table, with_condition, with_group, with_groups, with_join, with_joins, with_relation}
use Rattle.query_reader.specs.Scope.{scope_after}
use Rattle.query_reader.specs.Written.{source_of}

pub after-words : (xs ys : List Terminal) → AreNamed (xs ++ ys) → AreNamed ys
after-words [] ys h = h
after-words (x ∷ xs) ys h = after-words xs ys h.1

pub before-words : (xs ys : List Terminal) → AreNamed (xs ++ ys) → AreNamed xs
before-words [] ys h = tt
before-words (x ∷ xs) ys h = (h.0, before-words xs ys h.1)

-- the aliases of relations are names
abbrev pub HasNames : Joined → Type 0
HasNames j = All (λ r. IsName r.1) j.range

-- the name of a relation
relation-named : (r : Relation) → AreNamed (words_of_relation r) → IsName (alias_or (source_of r).alias (source_of r).table).bytes
relation-named (relation n no_alias) h = h.0 n refl
relation-named (relation n (bare_alias a u)) h = h.1.0 a refl
relation-named (relation n (as_alias k a)) h = h.1.1.0 a refl

under-named : (taken : Bool) (j i : Joined) (t : TableNo) (alias : Spelled) (f : Fault) → IsName alias.bytes → HasNames j → cond taken (Err f) (Ok (record j { range = j.range ++ (t, alias.bytes) ∷ [] })) ≡ Ok i → HasNames i
under-named true j i t alias f name h is = absurd (cc (is))
under-named false j i t alias f name h is =
    let same : record j { range = j.range ++ (t, alias.bytes) ∷ [] } ≡ i = cc (is) in
    subst HasNames same (All-append (λ (r : TableNo × List ℕ). IsName r.1) j.range ((t, alias.bytes) ∷ []) h (All-cons (λ (r : TableNo × List ℕ). IsName r.1) (t, alias.bytes) [] name (All-nil (λ (r : TableNo × List ℕ). IsName r.1))))

table-named : (found : Option TableNo) (j i : Joined) (source : Source) → IsName (alias_or source.alias source.table).bytes → HasNames j → of_table j found source ≡ Ok i → HasNames i
table-named None j i source name h is = absurd (cc (is))
table-named (Some t) j i source name h is = under-named (is_taken j.range (alias_or source.alias source.table).bytes) j i t (alias_or source.alias source.table) _ name h is

room-named : (room : Bool) (j i : Joined) (source : Source) (m : Result Joined Fault) (f : Fault) → (m ≡ Ok i → HasNames i) → cond room m (Err f) ≡ Ok i → HasNames i
room-named true j i source m f has is = has is
room-named false j i source m f has is = absurd (cc (is))

with-named : (j i : Joined) (r : Relation) → AreNamed (words_of_relation r) → HasNames j → with_relation j (source_of r) ≡ Ok i → HasNames i
with-named j i r words h is =
    room-named (nat_lt (length j.range) MOST_RELATIONS) j i (source_of r) (of_table j (table_named j.contents (source_of r).table.bytes) (source_of r)) _
    (table-named (table_named j.contents (source_of r).table.bytes) j i (source_of r) (relation-named r words) h) is

-- one step after another
next-named : (m : Result Joined Fault) (more : Joined → Result Joined Fault) (i : Joined) → ((k : Joined) → m ≡ Ok k → HasNames k) → ((k : Joined) → HasNames k → more k ≡ Ok i → HasNames i) → next m more ≡ Ok i → HasNames i
next-named (Ok k) more i first later is = later k (first k refl) is
next-named (Err f) more i first later is = absurd (cc (is))

condition-by : {A : Type 0} (m : Result A Fault) (j i : Joined) (more : A → Joined) → ((a : A) → HasNames (more a)) → next m (λ a. Ok (more a)) ≡ Ok i → HasNames i
condition-by (Ok a) j i more has is = let same : more a ≡ i = cc (is) in subst HasNames same (has a)
condition-by (Err f) j i more has is = absurd (cc (is))

condition-named : (first : ℕ) (j i : Joined) (e : Expr) → HasNames j → with_condition first j e ≡ Ok i → HasNames i
condition-named first j i e h is = condition-by (conjuncts_of_expr (scope_after j.contents first j.range) _ e) j i _ (λ ks. h) is

on-named : (first : ℕ) (j i : Joined) (r : Relation) (e : Expr) → AreNamed (words_of_relation r) → HasNames j → next (with_relation j (source_of r)) (λ k. with_condition first k e) ≡ Ok i → HasNames i
on-named first j i r e words h is = next-named (with_relation j (source_of r)) (λ k. with_condition first k e) i (λ k. with-named j k r words h) (λ k g. condition-named first k i e g) is

join-named : (first : ℕ) (j i : Joined) (x : Join) → AreNamed (words_of_join x) → HasNames j → with_join first j x ≡ Ok i → HasNames i
join-named first j i (join_on no_inner k r o e) words h is = on-named first j i r e (before-words (words_of_relation r) _ words.1) h is
join-named first j i (join_on (inner n) k r o e) words h is = on-named first j i r e (before-words (words_of_relation r) _ words.1.1) h is
join-named first j i (cross_join c k r) words h is = with-named j i r words.1.1 h is

joins-named : (first : ℕ) (j i : Joined) (js : List Join) → AreNamed (words_of_joins js) → HasNames j → with_joins first j js ≡ Ok i → HasNames i
joins-named first j i [] words h is = let same : j ≡ i = cc (is) in subst HasNames same h
joins-named first j i (x ∷ xs) words h is =
    next-named (with_join first j x) (λ k. with_joins first k xs) i (λ k. join-named first j k x (before-words (words_of_join x) (words_of_joins xs) words) h)
    (λ k g. joins-named first k i xs (after-words (words_of_join x) (words_of_joins xs) words) g) is

group-named : (j i : Joined) (g : Group) → AreNamed (words_of_group g) → HasNames j → with_group j g ≡ Ok i → HasNames i
group-named j i (group_of r xs) words h is =
    next-named (with_relation j (source_of r)) (λ k. with_joins (length j.range) k xs) i (λ k. with-named j k r (before-words (words_of_relation r) (words_of_joins xs) words) h)
    (λ k g. joins-named (length j.range) k i xs (after-words (words_of_relation r) (words_of_joins xs) words) g) is

groups-named : (j i : Joined) (gs : List (Mark × Group)) → AreNamed (words_of_groups gs) → HasNames j → with_groups j (groups_after gs) ≡ Ok i → HasNames i
groups-named j i [] words h is = let same : j ≡ i = cc (is) in subst HasNames same h
groups-named j i ((m, g) ∷ gs) words h is =
    next-named (with_group j g) (λ k. with_groups k (groups_after gs)) i (λ k. group-named j k g (before-words (words_of_group g) (words_of_groups gs) words.1) h)
    (λ k f. groups-named k i gs (after-words (words_of_group g) (words_of_groups gs) words.1) f) is

-- the aliases of all groups are names
pub all-named : (j i : Joined) (g : Group) (gs : List (Mark × Group)) (rest : List Terminal) → AreNamed (words_of_group g ++ (words_of_groups gs ++ rest)) → HasNames j → with_groups j (g ∷ groups_after gs) ≡ Ok i → HasNames i
all-named j i g gs rest words h is =
    next-named (with_group j g) (λ k. with_groups k (groups_after gs)) i (λ k. group-named j k g (before-words (words_of_group g) (words_of_groups gs ++ rest) words) h)
    (λ k f. groups-named k i gs (before-words (words_of_groups gs) rest (after-words (words_of_group g) (words_of_groups gs ++ rest) words)) f) is

names-by : (m : Result Joined Fault) (start : Token) (items : List Item) (w : Where) (y : OrderBy) (v : WindowTree) (q : Query) → ((j : Joined) → m ≡ Ok j → HasNames j) → IsBoundAs (next m (bound_over start items w y v)) (Ok q) → All (λ r. IsName r.1) q.range
names-by (Ok j) start items w y v q has h = subst (λ (r : Range). All (λ x. IsName x.1) r) (sym (over-range start items w y v j q h)) (has j refl)
names-by (Err f) start items w y v q has h = absurd h

-- a query whose statement has names within the limits
pub named-query : (c : Contents) (start : Token) (items : List Item) (g : Group) (gs : List (Mark × Group)) (w : Where) (y : OrderBy) (v : WindowTree) (rest : List Terminal) (P : Query → Type 0) (r : Result Query Refusal) →
    AreNamed (words_of_group g ++ (words_of_groups gs ++ rest)) → IsBoundAs (bound_from c start items (g ∷ groups_after gs) w y v) r → IfOk r (λ q. All (λ x. IsName x.1) q.range → P q) → IfOk r P
named-query c start items g gs w y v rest P (Ok q) words read has =
    has (names-by (with_groups (nothing_joined c) (g ∷ groups_after gs)) start items w y v q (λ j. all-named (nothing_joined c) j g gs rest words (All-nil (λ (r : TableNo × List ℕ). IsName r.1))) read)
named-query c start items g gs w y v rest P (Err e) words read has = tt
