-- What the next word tells of a part of a grouped SELECT whose words are left.
use Rattle.std.proofs.Common.{◌≡◌, true, List, [], ◌∷◌, ◌++◌, None, refl, sym, ap, ◌∙◌, append_assoc}
use Rattle.sql_lex.specs.declared.tokens.Token.{Token}
use Rattle.sql_grammar.specs.Terminals.{Terminal, Ident, token_of, t_key, t_mark, t_name}
use Rattle.sql_grammar.specs.Syntax.{Key, Mark, Col, bare, qualified, Output, every, every_of, one, Argument, all_rows, of_col, GroupedItem, plain_item, call, GroupBy, no_group_by, group_by, OrderBy, no_order, order_by}
use Rattle.sql_grammar.specs.Words.{words_of_argument, words_of_col, words_of_group_by, words_of_order, words_of_grouped_item, words_of_grouped_items, words_of_group_columns, words_of_output}
use Rattle.sql_grammar.specs.declared.class.Word.TheVariants.{From, Group as GroupKey, Order}
use Rattle.sql_grammar.specs.declared.class.Symbol.TheVariants.{Close, Comma, Dot, Open, Star}
use Rattle.sql_grammar.specs.work.Unique.{ends_col}
use Rattle.expr_reader.specs.Lists.{further_parts}
use Rattle.expr_reader.specs.Reading.{spelled}
use Rattle.expr_reader.specs.work.Reading.{BeginsName, BeginsNot}
use Rattle.expr_reader.specs.declared.cursor.Spelled.{Spelled}
use Rattle.query_reader.specs.declared.written.Item.TheVariants.{Bare, Every, EveryOf, Qualified}
use Rattle.query_reader.specs.work.Ends.{ends_item, ends_order}
use Rattle.group_reader.specs.declared.written.Column.{Column}
use Rattle.group_reader.specs.declared.written.Listed.{Listed}
use Rattle.group_reader.specs.declared.written.Listed.TheVariants.{Columns}
use Rattle.group_reader.specs.work.Ends.{ends_columns, ends_listed}
use Rattle.group_reader.specs.work.Written.{column_written, columns_listed, columns_written, listed_of, sorts_written}

-- a name, and no `.` after it
pub bare-column : (c : Col) (rest old mid new : List Terminal) (s : Spelled) → BeginsName s old mid → new ≡ mid → BeginsNot (t_mark Dot) mid → old ≡ words_of_col c ++ rest →
    ◌≡◌ {A = Column} (record { qualifier = None; name = s }) (column_written c) × (new ≡ rest)
bare-column (bare n) rest old mid new s (m, says, first) left absent is =
    let same : t_name m ∷ mid ≡ t_name n ∷ rest = sym first ∙ is in
    let name : m ≡ n = cc (same) in
    let so : mid ≡ rest = cc (same) in
    let P : Spelled → Column = λ x. record { qualifier = None; name = x } in
    (ap P (says ∙ ap spelled name), left ∙ so)
bare-column (qualified q d n) rest old mid new s (m, says, first) left absent is =
    let same : t_name m ∷ mid ≡ t_name q ∷ t_mark Dot d ∷ t_name n ∷ rest = sym first ∙ is in
    let so : mid ≡ t_mark Dot d ∷ t_name n ∷ rest = cc (same) in
    absurd (absent (t_name n ∷ rest) (d, so))

-- what a call is of where no star is next
pub record OfCol (a : Argument) (m : Mark) (rest old : List Terminal) : Type 0 where
  pub column : Col
  pub is : a ≡ of_col column
  pub words : old ≡ words_of_col column ++ t_mark Close m ∷ rest

pub of-col : (a : Argument) (m : Mark) (rest old : List Terminal) → BeginsNot (t_mark Star) old → old ≡ words_of_argument a ++ t_mark Close m ∷ rest → OfCol a m rest old
of-col (all_rows s) m rest old absent is = absurd (absent (t_mark Close m ∷ rest) (s, is))
of-col (of_col c) m rest old absent is = record { column = c; is = refl; words = is }

-- a name, and no `.` after it
pub bare-listed : (n : Ident) (o : Output) (rest left : List Terminal) (s : Spelled) → s ≡ spelled n → BeginsNot (t_mark Dot) left → t_name n ∷ left ≡ words_of_output o ++ rest →
    (Columns (Bare s) s.token ≡ columns_listed o) × (left ≡ rest)
bare-listed n (every m) rest left s says absent is = absurd (cc (is))
bare-listed n (every_of q d m) rest left s says absent is = absurd (absent (t_mark Star m ∷ rest) (d, cc (is)))
bare-listed n (one (bare m)) rest left s says absent is =
    let name : n ≡ m = cc (is) in
    let so : left ≡ rest = cc (is) in
    let P : Spelled → Listed = λ x. Columns (Bare x) x.token in
    (ap P (says ∙ ap spelled name), so)
bare-listed n (one (qualified q d m)) rest left s says absent is = absurd (absent (t_name m ∷ rest) (d, cc (is)))

-- a name, a `.` and a star
pub star-listed : (n : Ident) (o : Output) (rest left : List Terminal) (s : Spelled) (d t word : Token) → ends_item rest ≡ true → s ≡ spelled n → t_name n ∷ t_mark Dot d ∷ t_mark Star t ∷ left ≡ words_of_output o ++ rest → word ≡ t →
    (Columns (EveryOf s) word ≡ columns_listed o) × (left ≡ rest)
star-listed n (every m) rest left s d t word ends says is at = absurd (cc (is))
star-listed n (every_of q e m) rest left s d t word ends says is at =
    let name : n ≡ q = cc (is) in
    let mark : t ≡ m = cc (is) in
    let so : left ≡ rest = cc (is) in
    let P : Spelled → Listed = λ x. Columns (EveryOf x) word in
    (ap P (says ∙ ap spelled name) ∙ ap (Columns (EveryOf (spelled q))) (at ∙ mark), so)
star-listed n (one (bare m)) rest left s d t word ends says is at =
    let so : t_mark Dot d ∷ t_mark Star t ∷ left ≡ rest = cc (is) in
    let wrong = ap ends_item so ∙ ends in absurd (cc (wrong))
star-listed n (one (qualified q e m)) rest left s d t word ends says is at = absurd (cc (is))

-- a name and a `.`, and no star after it
pub record Dotted (n : Ident) (o : Output) (rest left : List Terminal) : Type 0 where
  pub name : Ident
  pub listed : Columns (Qualified (spelled n) (spelled name)) (token_of name) ≡ columns_listed o
  pub words : left ≡ t_name name ∷ rest

pub dotted : (n : Ident) (o : Output) (rest left : List Terminal) (t : Token) → ends_item rest ≡ true → BeginsNot (t_mark Star) left → t_name n ∷ t_mark Dot t ∷ left ≡ words_of_output o ++ rest → Dotted n o rest left
dotted n (every m) rest left t ends absent is = absurd (cc (is))
dotted n (every_of q d m) rest left t ends absent is = absurd (absent rest (m, cc (is)))
dotted n (one (bare m)) rest left t ends absent is =
    let so : t_mark Dot t ∷ left ≡ rest = cc (is) in
    let wrong = ap ends_item so ∙ ends in absurd (cc (wrong))
dotted n (one (qualified q d m)) rest left t ends absent is =
    let first : n ≡ q = cc (is) in
    let so : left ≡ t_name m ∷ rest = cc (is) in
    record { name = m; listed = ap (λ (i : Ident). Columns (Qualified (spelled i) (spelled m)) (token_of m)) first; words = so }

-- a star
pub every-listed : (i : GroupedItem) (rest left : List Terminal) (t word : Token) → t_mark Star t ∷ left ≡ words_of_grouped_item i ++ rest → word ≡ t → (Columns Every word ≡ listed_of i) × (left ≡ rest)
every-listed (plain_item (every m)) rest left t word is at =
    let mark : t ≡ m = cc (is) in
    let so : left ≡ rest = cc (is) in
    (ap (Columns Every) (at ∙ mark), so)
every-listed (plain_item (every_of q d m)) rest left t word is at = absurd (cc (is))
every-listed (plain_item (one (bare n))) rest left t word is at = absurd (cc (is))
every-listed (plain_item (one (qualified q d n))) rest left t word is at = absurd (cc (is))
every-listed (call n o a m) rest left t word is at = absurd (cc (is))

-- an item that is no star begins with a name
pub record BeginsNamed (old : List Terminal) : Type 0 where
  pub name : Ident
  pub left : List Terminal
  pub words : old ≡ t_name name ∷ left

pub begins-named : (i : GroupedItem) (rest old : List Terminal) → BeginsNot (t_mark Star) old → old ≡ words_of_grouped_item i ++ rest → BeginsNamed old
begins-named (plain_item (every m)) rest old absent is = absurd (absent rest (m, is))
begins-named (plain_item (every_of q d m)) rest old absent is = record { name = q; left = t_mark Dot d ∷ t_mark Star m ∷ rest; words = is }
begins-named (plain_item (one (bare n))) rest old absent is = record { name = n; left = rest; words = is }
begins-named (plain_item (one (qualified q d n))) rest old absent is = record { name = q; left = t_mark Dot d ∷ t_name n ∷ rest; words = is }
begins-named (call n o a m) rest old absent is = record { name = n; left = (t_mark Open o ∷ (words_of_argument a ++ t_mark Close m ∷ [])) ++ rest; words = is }

-- no `(` stands behind the name of an item that is no call
pub record NoCall (i : GroupedItem) : Type 0 where
  pub output : Output
  pub is : i ≡ plain_item output

pub no-call : (i : GroupedItem) (rest left : List Terminal) (n : Ident) → BeginsNot (t_mark Open) left → t_name n ∷ left ≡ words_of_grouped_item i ++ rest → NoCall i
no-call (plain_item o) rest left n absent is = record { output = o; is = refl }
no-call (call m o a k) rest left n absent is =
    let so : left ≡ t_mark Open o ∷ ((words_of_argument a ++ t_mark Close k ∷ []) ++ rest) = cc (is) in
    absurd (absent ((words_of_argument a ++ t_mark Close k ∷ []) ++ rest) (o, so))

-- what stands behind an item
pub listed-item : (rest : List Terminal) → ends_listed rest ≡ true → ends_item rest ≡ true
listed-item (t_mark Dot _ ∷ rest) ends = absurd (cc (ends))
listed-item _ ends = refl

pub items-listed : (xs : List (Mark × GroupedItem)) (f : Key) (rest : List Terminal) → ends_listed (words_of_grouped_items xs ++ t_key From f ∷ rest) ≡ true
items-listed [] f rest = refl
items-listed ((m, i) ∷ xs) f rest = refl

-- what stands behind a GROUP BY column
pub columns-operand : (xs : List (Mark × Col)) (rest : List Terminal) → ends_columns rest ≡ true → ends_col (words_of_group_columns xs ++ rest) ≡ true
columns-operand ((m, c) ∷ xs) rest ends = refl
columns-operand [] (t_mark Dot _ ∷ rest) ends = absurd (cc (ends))
columns-operand [] _ ends = refl

-- no comma stands behind a list
pub from-comma : (f : Key) (rest : List Terminal) → BeginsNot (t_mark Comma) (t_key From f ∷ rest)
from-comma f rest left (t, is) = absurd (cc (is))

pub columns-comma : (rest : List Terminal) → ends_columns rest ≡ true → BeginsNot (t_mark Comma) rest
columns-comma rest ends left (t, is) = let wrong = ap ends_columns (sym is) ∙ ends in absurd (cc (wrong))

pub order-comma : (rest : List Terminal) → ends_order rest ≡ true → BeginsNot (t_mark Comma) rest
order-comma rest ends left (t, is) = let wrong = ap ends_order (sym is) ∙ ends in absurd (cc (wrong))

-- no GROUP, and no ORDER
pub no-columns : (b : GroupBy) (rest old new : List Terminal) → BeginsNot (t_key GroupKey) old → new ≡ old → old ≡ words_of_group_by b ++ rest → ([] ≡ columns_written b) × (new ≡ rest)
no-columns no_group_by rest old new absent left is = (refl, left ∙ is)
no-columns (group_by k t c cs) rest old new absent left is = absurd (absent _ (k, is))

pub no-sorts : (y : OrderBy) (rest old new : List Terminal) → BeginsNot (t_key Order) old → new ≡ old → old ≡ words_of_order y ++ rest → ([] ≡ sorts_written y) × (new ≡ rest)
no-sorts no_order rest old new absent left is = (refl, left ∙ is)
no-sorts (order_by k b o os) rest old new absent left is = absurd (absent _ (k, is))

-- parts with a comma before each
module _ {A B : Type 0} (write : A → B) (words : A → List Terminal) (more : List (Mark × A) → List Terminal) (none : more [] ≡ [])
    (some : (m : Mark) (x : A) (xs : List (Mark × A)) → more ((m, x) ∷ xs) ≡ t_mark Comma m ∷ (words x ++ more xs)) where
  -- the part after a comma
  pub record NextPart (ys : List (Mark × A)) (left rest : List Terminal) : Type 0 where
    pub head : A
    pub others : List (Mark × A)
    pub all : further_parts write ys ≡ write head ∷ further_parts write others
    pub says : left ≡ words head ++ (more others ++ rest)

  pub next-part : (ys : List (Mark × A)) (left rest : List Terminal) (t : Token) → BeginsNot (t_mark Comma) rest → t_mark Comma t ∷ left ≡ more ys ++ rest → NextPart ys left rest
  next-part [] left rest t absent is = absurd (absent left (t, sym (is ∙ ap (λ l. l ++ rest) none)))
  next-part ((m, x) ∷ xs) left rest t absent is =
      let so : t_mark Comma t ∷ left ≡ t_mark Comma m ∷ ((words x ++ more xs) ++ rest) = is ∙ ap (λ l. l ++ rest) (some m x xs) in
      let tail : left ≡ (words x ++ more xs) ++ rest = cc (so) in
      record { head = x; others = xs; all = refl; says = tail ∙ append_assoc (words x) (more xs) rest }

  pub no-part : (ys : List (Mark × A)) (old rest : List Terminal) → BeginsNot (t_mark Comma) old → old ≡ more ys ++ rest → (further_parts write ys ≡ []) × (old ≡ rest)
  no-part [] old rest absent is = (refl, is ∙ ap (λ l. l ++ rest) none)
  no-part ((m, x) ∷ xs) old rest absent is = absurd (absent ((words x ++ more xs) ++ rest) (m, is ∙ ap (λ l. l ++ rest) (some m x xs)))

-- one more part, and what is still to come
pub pushed : {B : Type 0} (old now : List B) (x next : B) (more whole : List B) → now ≡ old ++ x ∷ [] → x ≡ next → old ++ next ∷ more ≡ whole → now ++ more ≡ whole
pushed old now x next more whole grown is so = rw (grown, is, append_assoc) so
