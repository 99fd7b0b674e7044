-- A key column, from its words.
use Rattle.std.proofs.Common.{◌≡◌, Bool, true, false, List, ◌∷◌, ◌++◌, Result, Ok, Err, IsErrAnd, refl, sym, ap, ◌∙◌, subst}
use Rattle.pg_base.specs.declared.faults.Code.TheVariants.{S3}
use Rattle.pg_base.specs.declared.faults.Fault.{Fault}
use Rattle.pg_base.specs.declared.faults.Refusal.{Refusal}
use Rattle.pg_base.specs.declared.faults.Refusal.TheVariants as refusal
use Rattle.pg_base.specs.declared.numbers.ColNo.{ColNo}
use Rattle.pg_base.specs.declared.numbers.TableNo.{TableNo}
use Rattle.pg_value.specs.declared.value.SqlType.{SqlType}
use Rattle.opfamily.specs.declared.classes.Method.{Method}
use Rattle.opfamily.specs.declared.classes.OpClass.{OpClass}
use Rattle.sql_lex.specs.declared.tokens.Token.{Token}
use Rattle.sql_grammar.specs.Terminals.{Terminal, Ident, token_of, t_mark}
use Rattle.sql_grammar.specs.Syntax.{Direction, no_direction, ascending, descending, NullsEnd, no_nulls_end, nulls_first, nulls_last, ClassTree, index_key}
use Rattle.sql_grammar.specs.Words.{words_of_direction, words_of_nulls_end}
use Rattle.expr_reader.specs.declared.cursor.Spelled.{Spelled}
use Rattle.expr_reader.specs.Reading.{spelled}
use Rattle.catalog.specs.Contents.{Contents, table_at}
use Rattle.catalog.specs.Indexes.{type_at}
use Rattle.catalog.specs.Tables.{column_named}
use Rattle.expr_reader.specs.work.Reads.{Reads}
use Rattle.expr_reader.proofs.ReadsLemmas.{read-memory}
use Rattle.ddl_reader.specs.Statistics.{known, column_of_name}
use Rattle.index_reader.specs.declared.keys.KeyRead.{KeyRead}
use Rattle.index_reader.specs.Keys.{class_bound, key_bound}
use Rattle.expr_reader.specs.Sorts.{is_descending, has_nulls_first}
use Rattle.expr_reader.specs.work.Sorts.{ends_direction, ends_nulls_end}
use Rattle.index_reader.specs.work.Reads.{begins_class, ends_key}
use Rattle.expr_reader.proofs.StepLemmas.{step, stop}

-- memory ran out
pub reads-memory : (T A : Type 0) (seen : T → A) (m : Result A Fault) (r : Result T Refusal) (rest left : List Terminal) → IsErrAnd r (λ e. e ≡ refusal.Memory) → Reads seen m rest r left
reads-memory T A seen m (Ok x) rest left told = absurd told
reads-memory T A seen m (Err refusal.Memory) rest left told = read-memory T A seen m rest left
reads-memory T A seen m (Err (refusal.Fault f)) rest left told = absurd (cc (told))

-- what stands behind a key ends its parts
pub class-end : (d : Direction) (z : NullsEnd) (rest : List Terminal) → ends_key rest ≡ true → begins_class ((words_of_direction d ++ words_of_nulls_end z) ++ rest) ≡ false
class-end no_direction no_nulls_end (t_mark _ _ ∷ x) h = refl
class-end no_direction no_nulls_end _ h = absurd (cc)
class-end no_direction (nulls_first n f) x h = refl
class-end no_direction (nulls_last n l) x h = refl
class-end (ascending k) z x h = refl
class-end (descending k) z x h = refl

pub direction-end : (z : NullsEnd) (rest : List Terminal) → ends_key rest ≡ true → ends_direction (words_of_nulls_end z ++ rest) ≡ true
direction-end no_nulls_end (t_mark _ _ ∷ x) h = refl
direction-end no_nulls_end _ h = absurd (cc)
direction-end (nulls_first n f) x h = refl
direction-end (nulls_last n l) x h = refl

pub nulls-end : (rest : List Terminal) → ends_key rest ≡ true → ends_nulls_end rest ≡ true
nulls-end (t_mark _ _ ∷ x) h = refl
nulls-end _ h = absurd (cc)

-- the column that is given
pub column-told : (cat : Contents) (t : TableNo) (n : Ident) (s : Spelled) (r : Result ColNo Fault) → s ≡ spelled n → r ≡ known S3 s.token (column_named cat t s.bytes) → column_of_name cat t n ≡ r
column-told cat t n s r is told = ap (λ (x : Spelled). known S3 x.token (column_named cat t x.bytes)) (sym is) ∙ sym told

module _ (cat : Contents) (t : TableNo) (m : Method) (n : Ident) (c : ClassTree) (d : Direction) (z : NullsEnd) (col : ColNo) (s : SqlType) (found : column_of_name cat t n ≡ Ok col) (typed : s ≡ type_at (table_at cat t).columns col) where
  -- a key's operator class is wrong
  pub class-wrong : (f : Fault) → class_bound m s c ≡ Err f → key_bound cat t m (index_key n c d z) ≡ Err f
  class-wrong f wrong = step (column_of_name cat t n) _ col found ∙ stop (class_bound m (type_at (table_at cat t).columns col) c) _ f (subst (λ u. class_bound m u c ≡ Err f) typed wrong)

  -- all of it is bound
  pub key-meant : (class : OpClass) (greatest first : Bool) (token : Token) → class_bound m s c ≡ Ok class → greatest ≡ is_descending d → first ≡ has_nulls_first greatest z → token ≡ token_of n →
      Ok (record { key = record { col = col; class = class; descending = greatest; nulls_first = first }; token = token }) ≡ key_bound cat t m (index_key n c d z)
  key-meant class greatest first token right down nulls at =
      let value : KeyRead = record { key = record { col = col; class = class; descending = is_descending d; nulls_first = has_nulls_first (is_descending d) z }; token = token_of n } in
      let same : record { key = record { col = col; class = class; descending = greatest; nulls_first = first }; token = token } ≡ value = rw (at, nulls, down) refl in
      ap (λ (k : KeyRead). Ok k) same ∙ sym (step (column_of_name cat t n) _ col found ∙ step (class_bound m (type_at (table_at cat t).columns col) c) _ class (subst (λ u. class_bound m u c ≡ Ok class) typed right))
