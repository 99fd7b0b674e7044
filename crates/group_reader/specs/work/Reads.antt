-- What reading the parts of a grouped SELECT from the left says (own).
use Rattle.std.specs.Prelude.{◌≡◌, Bool, true, false, drop, List, ◌∷◌, ◌++◌}
use Rattle.sql_grammar.specs.declared.class.Symbol.TheVariants.{Close, Star}
use Rattle.sql_grammar.specs.declared.class.Free.TheVariants.{Distinct}
use Rattle.sql_grammar.specs.declared.class.Word.TheVariants.{From}
use Rattle.sql_grammar.specs.Terminals.{Terminal, free, t_key, t_mark, t_name}
use Rattle.sql_grammar.specs.Syntax.{Argument, Group, GroupBy, GroupedItem, Mark, OrderBy, Where}
use Rattle.sql_grammar.specs.Words.{words_of_argument, words_of_group, words_of_group_by, words_of_grouped_item, words_of_grouped_items, words_of_groups, words_of_order, words_of_where}
use Rattle.query_reader.specs.work.Ends.{ends_window}

-- what a call is of, with the `)` behind it, stands first
abbrev pub StandsArgument : List Terminal → Type 0
StandsArgument ts = (a : Argument) × (m : Mark) × (rest : List Terminal) × (ts ≡ words_of_argument a ++ t_mark Close m ∷ rest)

-- where what a call is of stands first, with the `)` behind it, what it means is read, and what stands behind the `)` is left
abbrev pub YieldsArgument : {B : Type 0} → (Argument → B) → List Terminal → B → List Terminal → Type 0
YieldsArgument meaning old read left =
    (a : Argument) (m : Mark) (rest : List Terminal) → old ≡ words_of_argument a ++ t_mark Close m ∷ rest →
    (read ≡ meaning a) × (left ≡ rest)

-- the items of a list up to FROM, and what follows
abbrev pub words_of_grouped_list : GroupedItem → List (Mark × GroupedItem) → Mark → List Terminal → List Terminal
words_of_grouped_list i is f rest = words_of_grouped_item i ++ (words_of_grouped_items is ++ t_key From f ∷ rest)

-- GROUP BY and ORDER BY stand first, and no word behind them goes on them
abbrev pub StandsGrouping : List Terminal → Type 0
StandsGrouping ts =
    (b : GroupBy) × (y : OrderBy) × (rest : List Terminal) × (ends_window rest ≡ true) ×
    (ts ≡ words_of_group_by b ++ (words_of_order y ++ rest))

-- where GROUP BY and ORDER BY stand first, and no word behind them goes on them, this holds of them
abbrev pub IfGrouping : List Terminal → (GroupBy → OrderBy → Type 0) → Type 0
IfGrouping ts P =
    (b : GroupBy) (y : OrderBy) (rest : List Terminal) → ends_window rest ≡ true →
    ts ≡ words_of_group_by b ++ (words_of_order y ++ rest) → P b y

-- WHERE, GROUP BY and ORDER BY stand first, and no word behind them goes on them
abbrev pub StandsGroupedAfterFrom : List Terminal → Type 0
StandsGroupedAfterFrom ts =
    (w : Where) × (b : GroupBy) × (y : OrderBy) × (rest : List Terminal) × (ends_window rest ≡ true) ×
    (ts ≡ words_of_where w ++ (words_of_group_by b ++ (words_of_order y ++ rest)))

-- the groups of FROM and those parts stand first, and no word behind them goes on them
abbrev pub StandsGroupedFrom : List Terminal → Type 0
StandsGroupedFrom ts =
    (g : Group) × (gs : List (Mark × Group)) × (w : Where) × (b : GroupBy) × (y : OrderBy) × (rest : List Terminal) ×
    (ends_window rest ≡ true) ×
    (ts ≡ words_of_group g ++ (words_of_groups gs ++ (words_of_where w ++ (words_of_group_by b ++ (words_of_order y ++ rest)))))

-- a list begins with the next word: a star or a name
abbrev pub begins_items : List Terminal → Bool
begins_items (t_mark Star _ ∷ _) = true
begins_items (t_name _ ∷ _) = true
begins_items _ = false

-- DISTINCT stands next: a list begins behind that word
abbrev pub begins_distinct : List Terminal → Bool
begins_distinct (t_name (free Distinct _) ∷ ts) = begins_items ts
begins_distinct _ = false

-- what is left behind DISTINCT, where it stands next
abbrev pub behind_distinct : Bool → List Terminal → List Terminal
behind_distinct true ts = drop 1 ts
behind_distinct false ts = ts
