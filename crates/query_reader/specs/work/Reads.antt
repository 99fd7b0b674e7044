-- What reading the parts of a SELECT from the left says (own).
use Rattle.std.specs.Prelude.{◌≡◌, true, List, ◌∷◌, ◌++◌, map, Result, Vec}
use Rattle.std.specs.declared.alloc.Global.{Global}
use Rattle.pg_base.specs.declared.faults.Refusal.{Refusal}
use Rattle.pg_value.specs.declared.value.SqlType.{SqlType}
use Rattle.pg_expr.specs.declared.expr.Exprs.{Exprs}
use Rattle.pg_expr.specs.declared.operand.ColRef.{ColRef}
use Rattle.pg_expr.specs.work.View.{cond}
use Rattle.eq_classes.specs.declared.order.OrderItem.{OrderItem}
use Rattle.sql_grammar.specs.declared.class.Word.TheVariants.{From}
use Rattle.sql_grammar.specs.Terminals.{Terminal, Ident, t_key, t_name}
use Rattle.sql_grammar.specs.Syntax.{Mark, Output, Group, Where, OrderBy, WindowTree}
use Rattle.sql_grammar.specs.work.Unique.{ends_expr, ends_col}
use Rattle.sql_grammar.specs.Words.{words_of_col, words_of_expr, words_of_group, words_of_groups, words_of_order, words_of_ordering, words_of_orderings, words_of_output, words_of_outputs, words_of_where, words_of_window}
use Rattle.expr_reader.specs.declared.cursor.Spelled.{Spelled}
use Rattle.expr_reader.specs.Lists.{further_parts, bound_each}
use Rattle.expr_reader.specs.Reading.{spelled}
use Rattle.expr_reader.specs.work.Reading.{IfFirst, IfListed}
use Rattle.expr_reader.specs.work.Reads.{Reads}
use Rattle.expr_reader.specs.Scope.{Scope}
use Rattle.query_reader.specs.Binding.{conjuncts_written}
use Rattle.query_reader.specs.work.Ends.{ends_item, ends_order, ends_ordering, ends_where, ends_window}
use Rattle.query_reader.specs.From.{conjuncts_of_expr}
use Rattle.query_reader.specs.Order.{order_column, order_item, order_items}

-- the items of a list up to FROM, and what follows
abbrev pub words_of_list : Output → List (Mark × Output) → Mark → List Terminal → List Terminal
words_of_list o os f rest = words_of_output o ++ (words_of_outputs os ++ t_key From f ∷ rest)

-- an item whose first word, a name, is taken stands first, and no word behind it goes on it
abbrev pub StandsAfterName : List Terminal → Type 0
StandsAfterName ts =
    (n : Ident) × (o : Output) × (rest : List Terminal) × (ends_item rest ≡ true) × (t_name n ∷ ts ≡ words_of_output o ++ rest)

-- where that name was read so, what the item means is read, and what stands behind it is left
abbrev pub YieldsAfterName : {B : Type 0} → Spelled → (Output → B) → List Terminal → B → List Terminal → Type 0
YieldsAfterName first meaning old read left =
    (n : Ident) (o : Output) (rest : List Terminal) → ends_item rest ≡ true → first ≡ spelled n →
    t_name n ∷ old ≡ words_of_output o ++ rest →
    (read ≡ meaning o) × (left ≡ rest)

-- the parts of a SELECT behind its FROM stand first, and no word behind them goes on them
abbrev pub StandsAfterFrom : List Terminal → Type 0
StandsAfterFrom ts =
    (w : Where) × (y : OrderBy) × (v : WindowTree) × (rest : List Terminal) × (ends_window rest ≡ true) ×
    (ts ≡ words_of_where w ++ (words_of_order y ++ (words_of_window v ++ rest)))

-- where the parts of a SELECT behind its FROM stand first, and no word behind them goes on them, this holds of them
abbrev pub IfAfterFrom : List Terminal → (Where → OrderBy → WindowTree → Type 0) → Type 0
IfAfterFrom ts P =
    (w : Where) (y : OrderBy) (v : WindowTree) (rest : List Terminal) → ends_window rest ≡ true →
    ts ≡ words_of_where w ++ (words_of_order y ++ (words_of_window v ++ rest)) → P w y v

-- the groups of FROM and the parts behind it stand first, and no word behind them goes on them
abbrev pub StandsFrom : List Terminal → Type 0
StandsFrom ts =
    (g : Group) × (gs : List (Mark × Group)) × (w : Where) × (y : OrderBy) × (v : WindowTree) × (rest : List Terminal) ×
    (ends_window rest ≡ true) ×
    (ts ≡ words_of_group g ++ (words_of_groups gs ++ (words_of_where w ++ (words_of_order y ++ (words_of_window v ++ rest)))))

-- where the groups of FROM and the parts behind it stand first, and no word behind them goes on them, this holds of them
abbrev pub IfFrom : List Terminal → (Group → List (Mark × Group) → Where → OrderBy → WindowTree → Type 0) → Type 0
IfFrom ts P =
    (g : Group) (gs : List (Mark × Group)) (w : Where) (y : OrderBy) (v : WindowTree) (rest : List Terminal) →
    ends_window rest ≡ true →
    ts ≡ words_of_group g ++ (words_of_groups gs ++ (words_of_where w ++ (words_of_order y ++ (words_of_window v ++ rest)))) →
    P g gs w y v

-- the conjuncts of a condition
abbrev pub ReadsConjuncts : Scope → (ColRef → SqlType) → List Terminal → Result Exprs Refusal → List Terminal → Type 0
ReadsConjuncts scope type_of old read left =
    IfFirst words_of_expr ends_expr old (λ e rest. Reads
    (λ (es : Exprs). map cond es.items.items) (conjuncts_of_expr scope type_of e) rest read left)

-- the conjuncts of WHERE
abbrev pub ReadsWhere : Scope → (ColRef → SqlType) → List Terminal → Result Exprs Refusal → List Terminal → Type 0
ReadsWhere scope type_of old read left =
    IfFirst words_of_where ends_where old (λ w rest. Reads
    (λ (es : Exprs). map cond es.items.items) (conjuncts_written scope type_of w) rest read left)

-- the column of an item of ORDER BY, where the list shows these columns
abbrev pub ReadsOrderColumn : Scope → List ColRef → List Terminal → Result ColRef Refusal → List Terminal → Type 0
ReadsOrderColumn scope select old read left =
    IfFirst words_of_col ends_col old (λ c rest. Reads (λ x. x) (order_column scope select c) rest read left)

-- an item of ORDER BY
abbrev pub ReadsOrdering : Scope → List ColRef → List Terminal → Result OrderItem Refusal → List Terminal → Type 0
ReadsOrdering scope select old read left =
    IfFirst words_of_ordering ends_ordering old (λ o rest. Reads (λ i. i) (order_item scope select o) rest read left)

-- the items of ORDER BY, with a comma between them
abbrev pub ReadsOrderings : Scope → List ColRef → List Terminal → Result (Vec OrderItem Global) Refusal → List Terminal → Type 0
ReadsOrderings scope select old read left =
    IfListed words_of_ordering words_of_orderings ends_order old (λ o os rest.
    Reads (λ (v : Vec OrderItem Global). v.items) (bound_each (order_item scope select) (o ∷ further_parts
    (λ x. x) os)) rest read left)

-- the items of ORDER BY, or none where it is left out
abbrev pub ReadsOrderBy : Scope → List ColRef → List Terminal → Result (Vec OrderItem Global) Refusal → List Terminal → Type 0
ReadsOrderBy scope select old read left =
    IfFirst words_of_order ends_order old (λ y rest. Reads
    (λ (v : Vec OrderItem Global). v.items) (order_items scope select y) rest read left)
