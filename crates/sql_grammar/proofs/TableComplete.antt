-- The walk takes the columns of a table.
use Rattle.std.proofs.Common.{◌≡◌, ℕ, List, [], ◌∷◌, ◌++◌, refl, ap, ◌∙◌}
use Rattle.std.proofs.lemmas.List.{append_assoc}
use Rattle.sql_grammar.specs.declared.class.Free.TheVariants.{Character, Time, Timestamp, Without, Zone}
use Rattle.sql_grammar.specs.declared.class.Word.TheVariants.{With}
use Rattle.sql_grammar.specs.declared.class.Symbol.TheVariants.{Close}
use Rattle.sql_grammar.specs.declared.table.Item.{Item}
use Rattle.sql_grammar.specs.declared.table.Item.TheVariants.{Label, ColumnType, MaybeVarying, MaybeModifiers, MoreModifiers, MaybeZone, Nullness, MoreColumns}
use Rattle.sql_grammar.specs.Terminals.{Terminal, Said, free, t_key, t_mark, t_name}
use Rattle.sql_grammar.specs.Syntax.{Mark, Nulls, unwritten, not_null, nullable, Modifiers, no_modifiers, modifiers, TypeTree, named_type, character_varying, timestamp_with_zone, timestamp_without_zone, ColDef, coldef}
use Rattle.sql_grammar.specs.Words.{words_of_nulls, words_of_numbers, words_of_modifiers, words_of_type, words_of_coldef, words_of_columns}
use Rattle.sql_grammar.specs.work.Machine.{takes_all}
use Rattle.sql_grammar.proofs.Complete.{Passes, apart, skip}

-- what follows a type
record EndsType (ts : List Terminal) : Type 0 where
  varying : Passes MaybeVarying ts
  modifiers : Passes MaybeModifiers ts
  zone : Passes MaybeZone ts

-- what follows a column's definition
record EndsColumn (ts : List Terminal) : Type 0 where
  type : EndsType ts
  nullness : Passes Nullness ts

after-modifiers : (m : Modifiers) (ts : List Terminal) → Passes MaybeVarying ts → Passes MaybeVarying (words_of_modifiers m ++ ts)
after-modifiers no_modifiers ts p = p
after-modifiers (modifiers o n ns m) ts p = refl

after-type : (x : Nulls) (ts : List Terminal) → EndsType ts → EndsType (words_of_nulls x ++ ts)
after-type unwritten ts p = p
after-type (not_null n k) ts p = record { varying = refl; modifiers = refl; zone = refl }
after-type (nullable k) ts p = record { varying = refl; modifiers = refl; zone = refl }

after-column : (cs : List (Mark × ColDef)) (m : Mark) (ts : List Terminal) → EndsColumn (words_of_columns cs ++ t_mark Close m ∷ ts)
after-column [] m ts = record { type = record { varying = refl; modifiers = refl; zone = refl }; nullness = refl }
after-column (c ∷ cs) m ts = record { type = record { varying = refl; modifiers = refl; zone = refl }; nullness = refl }

module _ (limit : ℕ) where
  nulls : (x : Nulls) (s : List Item) (ts : List Terminal) → Passes Nullness ts → takes_all limit (words_of_nulls x ++ ts) (Nullness ∷ s) ≡ takes_all limit ts s
  nulls unwritten s ts p = skip limit Nullness s ts refl p
  nulls (not_null n k) s ts p = refl
  nulls (nullable k) s ts p = refl

  numbers : (ns : List (Mark × Said)) (m : Mark) (s : List Item) (ts : List Terminal) → takes_all limit (words_of_numbers ns ++ t_mark Close m ∷ ts) (MoreModifiers ∷ s) ≡ takes_all limit ts s
  numbers [] m s ts = refl
  numbers ((c, n) ∷ ns) m s ts = numbers ns m s ts

  bracketed : (x : Modifiers) (s : List Item) (ts : List Terminal) → Passes MaybeModifiers ts → takes_all limit (words_of_modifiers x ++ ts) (MaybeModifiers ∷ s) ≡ takes_all limit ts s
  bracketed no_modifiers s ts p = skip limit MaybeModifiers s ts refl p
  bracketed (modifiers o n ns m) s ts p = ap (λ l. takes_all limit l (MoreModifiers ∷ s)) (append_assoc (words_of_numbers ns) (t_mark Close m ∷ []) ts) ∙ numbers ns m s ts

  named : (t : TypeTree) (s : List Item) (ts : List Terminal) → EndsType ts → takes_all limit (words_of_type t ++ ts) (ColumnType ∷ s) ≡ takes_all limit ts s
  named (named_type (free Character c) m) s ts p = skip limit MaybeVarying (MaybeModifiers ∷ s) (words_of_modifiers m ++ ts) refl (after-modifiers m ts p.varying) ∙ bracketed m s ts p.modifiers
  named (named_type (free Timestamp c) m) s ts p = bracketed m (MaybeZone ∷ s) ts p.modifiers ∙ skip limit MaybeZone s ts refl p.zone
  named (named_type n m) s ts p = bracketed m s ts p.modifiers
  named (character_varying c v m) s ts p = bracketed m s ts p.modifiers
  named (timestamp_with_zone k m w t z) s ts p =
      let zone : List Terminal = t_key With w ∷ t_name (free Time t) ∷ t_name (free Zone z) ∷ [] in
      apart limit (words_of_modifiers m) zone ts (MaybeModifiers ∷ MaybeZone ∷ s) ∙ bracketed m (MaybeZone ∷ s) (zone ++ ts) refl
  named (timestamp_without_zone k m w t z) s ts p =
      let zone : List Terminal = t_name (free Without w) ∷ t_name (free Time t) ∷ t_name (free Zone z) ∷ [] in
      apart limit (words_of_modifiers m) zone ts (MaybeModifiers ∷ MaybeZone ∷ s) ∙ bracketed m (MaybeZone ∷ s) (zone ++ ts) refl

  column : (c : ColDef) (s : List Item) (ts : List Terminal) → EndsColumn ts → takes_all limit (words_of_coldef c ++ ts) (Label ∷ ColumnType ∷ Nullness ∷ s) ≡ takes_all limit ts s
  column (coldef n t x) s ts p =
      apart limit (words_of_type t) (words_of_nulls x) ts (ColumnType ∷ Nullness ∷ s) ∙ (named t (Nullness ∷ s) (words_of_nulls x ++ ts) (after-type x ts p.type) ∙ nulls x s ts p.nullness)

  pub columns : (c : ColDef) (cs : List (Mark × ColDef)) (m : Mark) (s : List Item) (ts : List Terminal) →
      takes_all limit (words_of_coldef c ++ (words_of_columns cs ++ t_mark Close m ∷ ts)) (Label ∷ ColumnType ∷ Nullness ∷ MoreColumns ∷ s) ≡ takes_all limit ts s
  columns c [] m s ts = column c (MoreColumns ∷ s) (t_mark Close m ∷ ts) (after-column [] m ts)
  columns c ((comma, d) ∷ cs) m s ts =
      column c (MoreColumns ∷ s) (words_of_columns ((comma, d) ∷ cs) ++ t_mark Close m ∷ ts) (after-column ((comma, d) ∷ cs) m ts) ∙
      (apart limit (words_of_coldef d) (words_of_columns cs) (t_mark Close m ∷ ts) (Label ∷ ColumnType ∷ Nullness ∷ MoreColumns ∷ s) ∙ columns d cs m s ts)
