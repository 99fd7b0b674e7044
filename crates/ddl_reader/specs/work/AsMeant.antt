-- What a part's reading gives, against what it means (own).
use Rattle.std.specs.Prelude.{◌≡◌, ℕ, ◌-◌, ◌^◌, min, Bool, true, false, List, [], ◌∷◌, ◌++◌, map, Result, Ok, Err, Vec}
use Rattle.std.specs.declared.alloc.Global.{Global}
use Rattle.pg_base.specs.declared.faults.Fault.{Fault}
use Rattle.pg_base.specs.declared.faults.Refusal.{Refusal}
use Rattle.pg_base.specs.declared.faults.Refusal.TheVariants as refusal
use Rattle.sql_grammar.specs.declared.class.Word.TheVariants.{Not, Null, With}
use Rattle.sql_grammar.specs.declared.class.Symbol.TheVariants.{Close, Comma, Dot, Open}
use Rattle.sql_grammar.specs.Terminals.{Terminal, Ident, Said, free, t_key, t_mark, t_name, t_number}
use Rattle.sql_grammar.specs.Syntax.{Mark, ColDef, Lit, Share, CommonPart, Histogram}
use Rattle.sql_grammar.specs.Words.{words_of_coldef, words_of_columns, words_of_lit, words_of_share, words_of_shares, words_of_bounds, words_of_common, words_of_histogram}
use Rattle.sql_grammar.specs.declared.class.Free.TheVariants.{Common as CommonWord, Histogram as HistogramWord, Varying, Without}
use Rattle.pg_value.specs.declared.value.SqlType.{SqlType}
use Rattle.pg_value.specs.declared.value.Value.{Value}
use Rattle.expr_reader.specs.work.Reading.{numbered}
use Rattle.expr_reader.specs.declared.value.Placed.{Placed}
use Rattle.expr_reader.specs.Literals.{typed_value, place_of_lit}
use Rattle.expr_reader.specs.Conditions.{next}
use Rattle.ddl_reader.specs.declared.columns.ColumnDef.{ColumnDef}
use Rattle.ddl_reader.specs.declared.literals.CommonRead.{CommonRead}
use Rattle.ddl_reader.specs.Columns.{BoundColumn}
use Rattle.ddl_reader.specs.Statistics.{CommonWords}

-- what is read, seen by `view`, is what is meant, and a fault is the fault that is meant; or there was no memory
abbrev pub IsAsMeant : (T V : Type 0) → (T → V) → Result T Refusal → Result V Fault → Type 0
IsAsMeant T V view (Ok x) meant = meant ≡ Ok (view x)
IsAsMeant T V view (Err (refusal.Fault f)) meant = meant ≡ Err f
IsAsMeant T V view (Err refusal.Memory) meant = Unit {0}

-- what is read without memory, seen by `view`, is what is meant, and a fault is the fault that is meant
abbrev pub Tells : (T V : Type 0) → (T → V) → Result T Refusal → Result V Fault → Type 0
Tells T V view (Ok x) meant = meant ≡ Ok (view x)
Tells T V view (Err (refusal.Fault f)) meant = meant ≡ Err f
Tells T V view (Err refusal.Memory) meant = ⊥

-- the parts that are read, in their order, are those that are meant, or their first fault is; or there was no memory
abbrev pub AreAsMeant : (T : Type 0) → Result (Vec T Global) Refusal → Result (List T) Fault → Type 0
AreAsMeant T = IsAsMeant (Vec T Global) (List T) (λ v. v.items)

-- nothing that goes on a column's definition is next
abbrev pub ends_nulls : List Terminal → Bool
ends_nulls (t_key Not _ ∷ _) = false
ends_nulls (t_key Null _ ∷ _) = false
ends_nulls _ = true

-- a comma or `)` is next: a column's definition ends there
abbrev pub ends_column : List Terminal → Bool
ends_column (t_mark Comma _ ∷ _) = true
ends_column (t_mark Close _ ∷ _) = true
ends_column _ = false

-- no numbers in parentheses are next
abbrev pub ends_modifiers : List Terminal → Bool
ends_modifiers (t_mark Open _ ∷ _) = false
ends_modifiers _ = true

-- nothing that goes on a type's words is next: no parenthesis, VARYING, WITH or WITHOUT
abbrev pub ends_type : List Terminal → Bool
ends_type (t_mark Open _ ∷ _) = false
ends_type (t_key With _ ∷ _) = false
ends_type (t_name (free Varying _) ∷ _) = false
ends_type (t_name (free Without _) ∷ _) = false
ends_type _ = true

-- columns up to `)`, and what follows
abbrev pub words_of_body : ColDef → List (Mark × ColDef) → Mark → List Terminal → List Terminal
words_of_body c cs m rest = words_of_coldef c ++ (words_of_columns cs ++ t_mark Close m ∷ rest)

-- a column that is read
abbrev pub seen : ColumnDef → BoundColumn
seen d = record { name = d.name.bytes; name_at = d.name.token; column = d.column }

-- the columns that are read are those that are meant, or their first fault is; or there was no memory
abbrev pub AreColumnsMeant : Result (Vec ColumnDef Global) Refusal → Result (List BoundColumn) Fault → Type 0
AreColumnsMeant = IsAsMeant (Vec ColumnDef Global) (List BoundColumn) (λ v. map seen v.items)

-- COMMON is not next: no common values follow
abbrev pub ends_common : List Terminal → Bool
ends_common (t_name (free CommonWord _) ∷ _) = false
ends_common _ = true

-- HISTOGRAM is not next: no bounds follow
abbrev pub ends_histogram : List Terminal → Bool
ends_histogram (t_name (free HistogramWord _) ∷ _) = false
ends_histogram _ = true

-- the words of CREATE TABLE, from the table's name on
abbrev pub SpellsTable : List Terminal → Type 0
SpellsTable ts =
    (n : Ident) × (o : Mark) × (x : ColDef) × (xs : List (Mark × ColDef)) × (m : Mark) × (rest : List Terminal) ×
    (ts ≡ t_name n ∷ t_mark Open o ∷ words_of_body x xs m rest)

-- common values with their shares up to `)`, and what follows
abbrev pub words_of_shares_left : Share → List (Mark × Share) → Mark → List Terminal → List Terminal
words_of_shares_left s ss m rest = words_of_share s ++ (words_of_shares ss ++ t_mark Close m ∷ rest)

-- the bounds of a histogram up to `)`, and what follows
abbrev pub words_of_bounds_left : Lit → List (Mark × Lit) → Mark → List Terminal → List Terminal
words_of_bounds_left l ls m rest = words_of_lit l ++ (words_of_bounds ls ++ t_mark Close m ∷ rest)

-- a literal as a value of a column of this type, with its first token
abbrev pub placed : SqlType → Lit → Result Placed Fault
placed t l = next (typed_value t l) (λ v. Ok (record { value = v; token = place_of_lit l }))

-- a common value of a column of a type with its share as it is written: the literal alone can be wrong
abbrev pub common_placed : SqlType → CommonWords → Result CommonRead Fault
common_placed t w = next (placed t w.0) (λ p. Ok (record { literal = p; share = numbered w.1 }))

-- the words of STATISTICS of a table from ROWS on, and what follows
abbrev pub words_of_sizes : Ident → Said → Terminal → Said → List Terminal → List Terminal
words_of_sizes r rows b pages rest = t_name r ∷ t_number rows ∷ b ∷ t_number pages ∷ rest

-- the two lists of literals of a column, each of which may be left out, and what follows
abbrev pub words_of_lists : CommonPart → Histogram → List Terminal → List Terminal
words_of_lists cs h rest = words_of_common cs ++ (words_of_histogram h ++ rest)

-- the words of STATISTICS of a column from its name on, with its lists of literals, and what follows
abbrev pub words_of_column : Ident → Terminal → Said → Terminal → Said → CommonPart → Histogram → List Terminal → List Terminal
words_of_column c a d b n cs h rest = t_name c ∷ a ∷ t_number d ∷ b ∷ t_number n ∷ words_of_lists cs h rest

-- the words of STATISTICS of a table from ROWS on are all that is left
abbrev pub SpellsSizesPart : List Terminal → Type 0
SpellsSizesPart ts =
    (r : Ident) × (rows : Said) × (b : Terminal) × (pages : Said) × (rest : List Terminal) ×
    (ts ≡ words_of_sizes r rows b pages rest)

-- the two lists of literals of a column stand first, and no word behind them begins another one
abbrev pub SpellsLists : List Terminal → Type 0
SpellsLists ts =
    (cs : CommonPart) × (h : Histogram) × (rest : List Terminal) × (ends_common rest ≡ true) × (ends_histogram rest ≡ true) ×
    (ts ≡ words_of_lists cs h rest)

-- the words of STATISTICS of a column from its name on are all that is left: no list of literals follows them
abbrev pub SpellsColumnPart : List Terminal → Type 0
SpellsColumnPart ts =
    (c : Ident) × (a : Terminal) × (d : Said) × (b : Terminal) × (n : Said) × (cs : CommonPart) × (h : Histogram) ×
    (rest : List Terminal) ×
    (ends_common rest ≡ true) × (ends_histogram rest ≡ true) × (ts ≡ words_of_column c a d b n cs h rest)

-- the words of STATISTICS of a table, from its name on
abbrev pub SpellsSizes : List Terminal → Type 0
SpellsSizes ts = (t : Ident) × (r : Ident) × (rows : Said) × (b : Terminal) × (pages : Said) × (rest : List Terminal) × (ts ≡ t_name t ∷ words_of_sizes r rows b pages rest)

-- the words of STATISTICS of a column, from the table's name on: no list of literals follows them
abbrev pub SpellsColumn : List Terminal → Type 0
SpellsColumn ts =
    (t : Ident) × (m : Mark) × (c : Ident) × (a : Terminal) × (d : Said) × (b : Terminal) × (n : Said) × (cs : CommonPart) × (h : Histogram) × (rest : List Terminal) ×
    (ends_common rest ≡ true) × (ends_histogram rest ≡ true) × (ts ≡ t_name t ∷ t_mark Dot m ∷ words_of_column c a d b n cs h rest)

-- a common value that is read, with its share, which is cut to what its field holds
abbrev pub common_seen : CommonRead → Value × ℕ
common_seen c = (c.literal.value, min c.share.value (2 ^ 32 - 1))

-- where it and its share begin: at one of these stands a refusal of the catalogue
abbrev pub starts_seen : CommonRead → List ℕ
starts_seen c = c.literal.token.start ∷ c.share.token.start ∷ []

-- a bound that is read
abbrev pub value_seen : Placed → Value
value_seen p = p.value

-- where it begins
abbrev pub start_seen : Placed → ℕ
start_seen p = p.token.start
