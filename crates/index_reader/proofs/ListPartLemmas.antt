-- The key columns and the columns of INCLUDE as lists of parts.
use Rattle.std.proofs.Common.{◌≡◌, true, List, [], ◌∷◌, ◌++◌, refl, Result}
use Rattle.pg_base.specs.declared.faults.Refusal.{Refusal}
use Rattle.pg_base.specs.declared.numbers.TableNo.{TableNo}
use Rattle.opfamily.specs.declared.classes.Method.{Method}
use Rattle.sql_grammar.specs.declared.class.Symbol.TheVariants.{Close}
use Rattle.sql_grammar.specs.Terminals.{Terminal, Ident, t_mark, t_name}
use Rattle.sql_grammar.specs.Syntax.{Mark, Direction, NullsEnd, ClassTree, KeyTree, index_key}
use Rattle.sql_grammar.specs.Words.{words_of_key, words_of_keys, words_of_names}
use Rattle.catalog.specs.Contents.{Contents}
use Rattle.expr_reader.specs.work.Reads.{Reads}
use Rattle.ddl_reader.proofs.ListLemmas.{Parts}
use Rattle.index_reader.specs.declared.keys.KeyRead.{KeyRead}
use Rattle.index_reader.specs.declared.names.NamedColumn.{NamedColumn}
use Rattle.index_reader.specs.Keys.{key_bound, name_bound}
use Rattle.index_reader.specs.work.Reads.{ends_key}

abbrev pub key_parts : Contents → TableNo → Method → Parts KeyTree KeyTree KeyRead
key_parts cat t m = record { part = λ k. k; bind = key_bound cat t m; words = words_of_key; further = words_of_keys; none = refl; some = λ m x xs. refl }

abbrev pub name_parts : Contents → TableNo → Parts Ident Ident NamedColumn
name_parts cat t = record { part = λ n. n; bind = name_bound cat t; words = λ n. t_name n ∷ []; further = words_of_names; none = refl; some = λ m x xs. refl }

pub keys-end : (ks : List (Mark × KeyTree)) (m : Mark) (rest : List Terminal) → ends_key (words_of_keys ks ++ t_mark Close m ∷ rest) ≡ true
keys-end [] m rest = refl
keys-end ((_, _) ∷ _) m rest = refl

-- what is said of a key by its words is said of the key
pub every-key : (cat : Contents) (t : TableNo) (m : Method) (old new : List Terminal) (r : Result KeyRead Refusal) →
    ((n : Ident) (c : ClassTree) (d : Direction) (z : NullsEnd) (rest : List Terminal) → ends_key rest ≡ true → old ≡ words_of_key (index_key n c d z) ++ rest →
    Reads (λ (k : KeyRead). k) (key_bound cat t m (index_key n c d z)) rest r new) →
    (x : KeyTree) (rest : List Terminal) → ends_key rest ≡ true → old ≡ words_of_key x ++ rest → Reads (λ (k : KeyRead). k) (key_bound cat t m x) rest r new
every-key cat t m old new r told (index_key n c d z) rest ends is = told n c d z rest ends is

pub key-words : (x : KeyTree) (rest old : List Terminal) → ends_key rest ≡ true → old ≡ words_of_key x ++ rest →
    (n : Ident) × (c : ClassTree) × (d : Direction) × (z : NullsEnd) × (rest : List Terminal) × (ends_key rest ≡ true) × (old ≡ words_of_key (index_key n c d z) ++ rest)
key-words (index_key n c d z) rest old ends is = (n, c, d, z, rest, ends, is)
