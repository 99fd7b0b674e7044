-- The words of the parts of CREATE INDEX, and what stands behind them: by these words a part's reading knows where it ends
-- (own).
use Rattle.std.specs.Prelude.{◌≡◌, List, [], ◌∷◌, ◌++◌, Bool, true, false, Some, Result, Vec}
use Rattle.std.specs.declared.alloc.Global.{Global}
use Rattle.pg_base.specs.declared.faults.Fault.{Fault}
use Rattle.pg_base.specs.declared.faults.Refusal.{Refusal}
use Rattle.pg_base.specs.declared.numbers.TableNo.{TableNo}
use Rattle.pg_value.specs.declared.value.SqlType.{SqlType}
use Rattle.opfamily.specs.declared.classes.Method.{Method}
use Rattle.opfamily.specs.declared.classes.OpClass.{OpClass}
use Rattle.sql_lex.specs.declared.tokens.Token.{Token}
use Rattle.sql_grammar.specs.declared.class.Class.{Class}
use Rattle.sql_grammar.specs.declared.class.Class.TheVariants.{Name}
use Rattle.sql_grammar.specs.declared.class.Free.TheVariants.{Include as IncludeWord, Nulls}
use Rattle.sql_grammar.specs.declared.class.Word.TheVariants.{Asc, Desc, Using as UsingKey}
use Rattle.sql_grammar.specs.declared.class.Symbol.TheVariants.{Close}
use Rattle.sql_grammar.specs.Terminals.{Terminal, Ident, free, t_key, t_mark, t_name}
use Rattle.sql_grammar.specs.work.Terminals.{class_of}
use Rattle.sql_grammar.specs.Syntax.{Key, Mark, Direction, NullsEnd, ClassTree, KeyTree, index_key, Using, Include, Where, cand_on}
use Rattle.sql_grammar.specs.Words.{words_of_cand, words_of_class, words_of_key, words_of_keys, words_of_names}
use Rattle.catalog.specs.Contents.{Contents}
use Rattle.catalog.specs.work.Entries.{index_of}
use Rattle.expr_reader.specs.Lists.{bound_each}
use Rattle.expr_reader.specs.work.Reads.{Reads}
use Rattle.index_reader.specs.declared.index.ReadIndex.{ReadIndex}
use Rattle.index_reader.specs.declared.keys.KeyRead.{KeyRead}
use Rattle.index_reader.specs.Keys.{class_bound, key_bound}
use Rattle.index_reader.specs.Meaning.{IndexMeant, meaning_of_cand}

-- a word of this class is an operator class where one may stand
abbrev pub opens_class : Class → Bool
opens_class (Name (Some Nulls)) = false
opens_class (Name _) = true
opens_class _ = false

-- an operator class is next: any name but the one that begins NULLS FIRST and NULLS LAST
abbrev pub begins_class : List Terminal → Bool
begins_class [] = false
begins_class (w ∷ _) = opens_class (class_of w)

-- a comma or a parenthesis stands behind a key
abbrev pub ends_key : List Terminal → Bool
ends_key (t_mark _ _ ∷ _) = true
ends_key _ = false

-- USING does not stand next
abbrev pub ends_using : List Terminal → Bool
ends_using (t_key UsingKey _ ∷ _) = false
ends_using _ = true

-- INCLUDE does not
abbrev pub ends_include : List Terminal → Bool
ends_include (t_name (free IncludeWord _) ∷ _) = false
ends_include _ = true

-- keys up to `)`, and what follows
abbrev pub words_of_keys_left : KeyTree → List (Mark × KeyTree) → Mark → List Terminal → List Terminal
words_of_keys_left x xs m rest = words_of_key x ++ (words_of_keys xs ++ t_mark Close m ∷ rest)

-- names of INCLUDE columns up to `)`, and what follows
abbrev pub words_of_names_left : Ident → List (Mark × Ident) → Mark → List Terminal → List Terminal
words_of_names_left n ns m rest = t_name n ∷ (words_of_names ns ++ t_mark Close m ∷ rest)

-- what is read
abbrev pub index_meant : ReadIndex → IndexMeant
index_meant r = record { name = r.name; index = index_of r.def; at = r.at.items; method = r.method }

-- some parts, bound from the left, are read, and `rest` is left; or the first fault is reported; or there was no memory
abbrev pub ReadsEach : {A T : Type 0} → (A → Result T Fault) → List A → List Terminal → Result (Vec T Global) Refusal →
    List Terminal → Type 0
ReadsEach {A} {T} bind parts rest read left = Reads (λ (v : Vec T Global). v.items) (bound_each bind parts) rest read left

-- a key column stands first, and no word behind it goes on it
abbrev pub StandsKey : List Terminal → Type 0
StandsKey ts =
    (n : Ident) × (c : ClassTree) × (d : Direction) × (z : NullsEnd) × (rest : List Terminal) × (ends_key rest ≡ true) ×
    (ts ≡ words_of_key (index_key n c d z) ++ rest)

-- where a key column stands first, and no word behind it goes on it, it is read as it means, of a table and for an access
-- method, and what stands behind it is left
abbrev pub ReadsIndexKey : Contents → TableNo → Method → List Terminal → Result KeyRead Refusal → List Terminal → Type 0
ReadsIndexKey cat t m old read left =
    (n : Ident) (c : ClassTree) (d : Direction) (z : NullsEnd) (rest : List Terminal) → ends_key rest ≡ true →
    old ≡ words_of_key (index_key n c d z) ++ rest → Reads (λ k. k) (key_bound cat t m (index_key n c d z)) rest read left

-- an operator class, which may be left out, stands first, and none behind it
abbrev pub StandsClass : List Terminal → Type 0
StandsClass ts = (c : ClassTree) × (rest : List Terminal) × (begins_class rest ≡ false) × (ts ≡ words_of_class c ++ rest)

-- where an operator class, which may be left out, stands first, and none behind it, it is read as it means for an access method
-- and a type, and what stands behind it is left
abbrev pub ReadsClass : Method → SqlType → List Terminal → Result OpClass Refusal → List Terminal → Type 0
ReadsClass m t old read left =
    (c : ClassTree) (rest : List Terminal) → begins_class rest ≡ false → old ≡ words_of_class c ++ rest →
    Reads (λ k. k) (class_bound m t c) rest read left

-- the words are those of a candidate for an index
abbrev pub AreOfCand : List Terminal → Type 0
AreOfCand ts =
    (n : Ident) × (o : Key) × (t : Ident) × (u : Using) × (p : Mark) × (x : KeyTree) × (xs : List (Mark × KeyTree)) ×
    (m : Mark) × (c : Include) × (w : Where) × (ts ≡ words_of_cand (cand_on n o t u p x xs m c w))

-- where the words are those of a candidate, it is read as it means, in a statement that begins at this token
abbrev pub ReadsCand : Contents → Token → List Terminal → Result ReadIndex Refusal → Type 0
ReadsCand cat start ts read =
    (n : Ident) (o : Key) (t : Ident) (u : Using) (p : Mark) (x : KeyTree) (xs : List (Mark × KeyTree)) (m : Mark)
    (c : Include) (w : Where) → ts ≡ words_of_cand (cand_on n o t u p x xs m c w) →
    Reads index_meant (meaning_of_cand cat start (cand_on n o t u p x xs m c w)) [] read []
