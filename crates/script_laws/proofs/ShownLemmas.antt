-- How many columns a list shows: with each item at most as many as the relations have, and one.
use Rattle.std.proofs.Common.{◌≡◌, ◌<◌, ◌≤◌, ◌+◌, ◌*◌, ◌^◌, ℕ, Bool, true, false, not, List, [], ◌∷◌, ◌++◌, length, length-append, map, All, Some, None, Result, Ok, Err, refl, ap, suc, arith}
use Rattle.std.specs.Str.{bytes_eq}
use Rattle.std.proofs.lemmas.List.{length-map}
use Rattle.std.proofs.lemmas.List.Elements.{All-head, All-tail}
use Rattle.std.proofs.lemmas.List.Filters.{length-filter_both}
use Rattle.pg_base.specs.declared.faults.Fault.{Fault}
use Rattle.pg_base.specs.declared.numbers.RelNo.{RelNo}
use Rattle.pg_base.specs.declared.numbers.TableNo.{TableNo}
use Rattle.pg_value.specs.declared.value.SqlType.{SqlType}
use Rattle.pg_expr.specs.declared.operand.ColRef.{ColRef}
use Rattle.catalog.specs.Contents.{Contents, IsLawfulTable, table_at}
use Rattle.catalog.specs.Range.{Range, type_in}
use Rattle.sql_lex.specs.declared.tokens.Token.{Token}
use Rattle.sql_grammar.specs.Syntax.{bare, qualified, GroupBy, no_group_by, GroupedItem, plain_item, Mark, OrderBy, Output, every, every_of, one}
use Rattle.sql_grammar.specs.Words.{words_of_output, words_of_outputs}
use Rattle.expr_reader.specs.Conditions.{next, the_column}
use Rattle.expr_reader.specs.Lists.{further_parts}
use Rattle.expr_reader.specs.Scope.{Scope, Visible, columns_in_scope, look_up, under}
use Rattle.expr_reader.proofs.TypedLemmas.{next-done}
use Rattle.query_reader.specs.Binding.{alone, found_relation, item_columns}
use Rattle.query_reader.specs.work.From.{AreRelations}
use Rattle.query_reader.specs.Scope.{columns_from, relations_from, scope_of}
use Rattle.query_reader.specs.Written.{item_of}
use Rattle.query_reader.specs.declared.written.Item.{Item}
use Rattle.query_reader.specs.declared.written.Item.TheVariants.{Every, EveryOf, Bare, Qualified}
use Rattle.group_reader.specs.declared.parts.Part.{Part}
use Rattle.group_reader.specs.declared.written.Column.{Column}
use Rattle.group_reader.specs.Binding.{BoundLists, shown_columns}
use Rattle.group_reader.specs.work.Meaning.{column_meant, keys_said, list_said, shown_at, then_parts}
use Rattle.group_reader.specs.Written.{word_of_output}
use Rattle.group_reader.specs.work.Written.{columns_written, listed_of, sorts_written}
use Rattle.group_reader.proofs.WellLemmas.{AreLists, each-length}

columns-many : (alias : List ℕ) (rel : RelNo) (k : ℕ) (names : List (List ℕ)) → length (columns_from alias rel k names) ≡ length names
columns-many alias rel k [] = refl
columns-many alias rel k (n ∷ ns) = ap suc (columns-many alias rel (k + 1) ns)

relations-many : (c : Contents) (k : ℕ) (range : Range) → All (λ r. IsLawfulTable (table_at c r.0)) range → length (relations_from c k range) ≤ 32 * length range
relations-many c k [] h = omega arith
relations-many c k ((table, alias) ∷ range) h =
    let P : TableNo × List ℕ → Type 0 = λ r. IsLawfulTable (table_at c r.0) in
    let lawful = All-head P (table, alias) range h in
    let few : length (table_at c table).columns ≤ 32 = lawful.few in
    let wide : length (table_at c table).names ≡ length (table_at c table).columns = lawful.width in
    let rel : RelNo = record { 0 = k } in
    let own = columns-many alias rel 0 (table_at c table).names in
    let more = relations-many c (k + 1) range (All-tail P (table, alias) range h) in
    let both = length-append (columns_from alias rel 0 (table_at c table).names) (relations_from c (k + 1) range) in
    omega (arith, few, wide, own, more, both)

scope-few : (c : Contents) (range : Range) → AreRelations c range → length (scope_of c range) ≤ 320
scope-few c range are = let few : length range ≤ 10 = are.few in omega (arith, few, relations-many c 0 range are.lawful)

relation-few : (scope : Scope) (t : Token) (xs : List ColRef) → found_relation scope t ≡ Ok xs → length xs ≤ length scope
relation-few [] t xs is = absurd (cc (is))
relation-few (v ∷ scope) t xs is =
    let same : columns_in_scope (v ∷ scope) ≡ xs = cc (is) in
    omega (arith, ap length same, length-map (v ∷ scope) (λ (x : Visible). x.column))

one-column : (m : Result ColRef Fault) (xs : List ColRef) → next m alone ≡ Ok xs → length xs ≡ 1
one-column m xs is =
    let d = next-done m alone xs is in
    let same : d.value ∷ [] ≡ xs = cc (d.rest) in
    omega (arith, ap length same)

item-few : (scope : Scope) (item : Item) (xs : List ColRef) → item_columns scope item ≡ Ok xs → length xs ≤ length scope + 1
item-few scope Every xs is =
    let same : columns_in_scope scope ≡ xs = cc (is) in
    omega (arith, ap length same, length-map scope (λ (x : Visible). x.column))
item-few scope (EveryOf q) xs is =
    let test : Visible → Bool = λ v. bytes_eq q.bytes v.alias in
    omega (arith, relation-few (under q.bytes scope) q.token xs is, length-filter_both test (λ v. not (test v)) (λ v. refl) scope)
item-few scope (Bare n) xs is = omega (arith, one-column (the_column (look_up scope None n.bytes) n.token n.token) xs is)
item-few scope (Qualified q n) xs is = omega (arith, one-column (the_column (look_up scope (Some q.bytes) n.bytes) q.token n.token) xs is)

shown-these : (word : Token) (xs : List ColRef) (ps : List Part) → length (shown_columns (map (shown_at word) xs ++ ps)) ≡ length xs + length (shown_columns ps)
shown-these word [] ps = omega arith
shown-these word (x ∷ xs) ps = omega (arith, shown-these word xs ps)

module _ (scope : Scope) (type_of : ColRef → SqlType) (few : length scope ≤ 320) where
  said-few : (os : List Output) (ps : List Part) → list_said scope type_of (map listed_of (map plain_item os)) ≡ Ok ps → length (shown_columns ps) ≤ 321 * length os
  said-few [] ps is =
      let same : [] ≡ ps = cc (is) in
      omega (arith, ap (λ (l : List Part). length (shown_columns l)) same)
  said-few (o ∷ os) ps is = by (item_columns scope (item_of o)) (list_said scope type_of (map listed_of (map plain_item os))) refl (said-few os) is
    where
      by : (r : Result (List ColRef) Fault) (rs : Result (List Part) Fault) → item_columns scope (item_of o) ≡ r → ((qs : List Part) → rs ≡ Ok qs → length (shown_columns qs) ≤ 321 * length os) →
          then_parts (next r (λ xs. Ok (map (shown_at (word_of_output o)) xs))) rs ≡ Ok ps → length (shown_columns ps) ≤ 321 * suc (length os)
      by (Ok xs) (Ok qs) at later is =
          let same : map (shown_at (word_of_output o)) xs ++ qs ≡ ps = cc (is) in
          let whole = ap (λ (l : List Part). length (shown_columns l)) same in
          omega (arith, few, whole, shown-these (word_of_output o) xs qs, item-few scope (item_of o) xs at, later qs refl)
      by (Ok xs) (Err f) at later is = absurd (cc (is))
      by (Err f) rs at later is = absurd (cc (is))

-- wherever such lists are bound, there are not more columns to group by than can be numbered
abbrev pub HasFewKeys : List GroupedItem → Bool → GroupBy → OrderBy → Type 0
HasFewKeys items distinct by y =
    (c : Contents) (range : Range) → AreRelations c range → (l : BoundLists) → AreLists (scope_of c range) (type_in c range) (map listed_of items) distinct (columns_written by) (sorts_written y) l → length l.keys < 2 ^ 32

pub grouped-few : (items : List GroupedItem) (by : GroupBy) (y : OrderBy) → length (columns_written by) < 2 ^ 32 → HasFewKeys items false by y
grouped-few items by y few c range are l h = omega (arith, few, each-length (column_meant (scope_of c range)) (columns_written by) l.keys h.grouped)

distinct-keys : (scope : Scope) (columns : List Column) (ps : List Part) (xs : List ColRef) → keys_said scope true columns ps ≡ Ok xs → shown_columns ps ≡ xs
distinct-keys scope columns ps xs is = cc (is)

pub distinct-few : (os : List Output) (y : OrderBy) → length os < 2 ^ 23 → HasFewKeys (map plain_item os) true no_group_by y
distinct-few os y few c range are l h =
    let same = ap length (distinct-keys (scope_of c range) (columns_written no_group_by) l.parts l.keys h.grouped) in
    omega (arith, few, same, said-few (scope_of c range) (type_in c range) (scope-few c range are) os l.parts h.shown)

-- an item has a word at least
pub output-words : (o : Output) → 1 ≤ length (words_of_output o)
output-words (every m) = omega arith
output-words (every_of q d m) = omega arith
output-words (one (bare n)) = omega arith
output-words (one (qualified q d n)) = omega arith

-- a further one has two, with its comma
pub outputs-words : (os : List (Mark × Output)) → 2 * length (further_parts (λ (o : Output). o) os) ≤ length (words_of_outputs os)
outputs-words [] = omega arith
outputs-words ((m, o) ∷ os) = omega (arith, output-words o, outputs-words os, length-append (words_of_output o) (words_of_outputs os))
