-- What the next word tells of the tree whose words are left.
use Rattle.std.proofs.Common.{◌≡◌, true, List, [], ◌∷◌, ◌++◌, Option, Some, None, MatchOption, MatchResult, Result, Ok, Err, IfOk, refl, sym, ap, ◌∙◌, append_assoc}
use Rattle.sql_lex.specs.declared.tokens.Token.{Token}
use Rattle.sql_grammar.specs.Terminals.{Terminal, Ident, t_key, t_mark, t_name}
use Rattle.sql_grammar.specs.Syntax.{Key, Mark, bare, qualified, Output, every, every_of, one, Alias, no_alias, bare_alias, as_alias}
use Rattle.sql_grammar.specs.Words.{words_of_output, words_of_outputs, words_of_alias}
use Rattle.sql_grammar.specs.declared.class.Word.TheVariants.{As, From}
use Rattle.sql_grammar.specs.declared.class.Symbol.TheVariants.{Comma, Dot, Star}
use Rattle.expr_reader.specs.Reading.{spelled}
use Rattle.expr_reader.specs.work.Reading.{BeginsNot, BeginsName, BeginsNoName}
use Rattle.expr_reader.specs.declared.cursor.Spelled.{Spelled}
use Rattle.query_reader.specs.declared.written.Item.{Item}
use Rattle.query_reader.specs.declared.written.Item.TheVariants.{Bare, Qualified}
use Rattle.query_reader.specs.Written.{item_of, items_of, alias_of}
use Rattle.query_reader.specs.work.Ends.{ends_item, ends_alias}

-- the alias after AS
pub record AfterAs (a : Alias) (rest left : List Terminal) : Type 0 where
  pub name : Ident
  pub alias : alias_of a ≡ Some (spelled name)
  pub words : left ≡ t_name name ∷ rest

pub after-as : (a : Alias) (rest left : List Terminal) (t : Token) → ends_alias rest ≡ true → t_key As t ∷ left ≡ words_of_alias a ++ rest → AfterAs a rest left
after-as no_alias rest left t ends is = let absent = ap ends_alias is ∙ ends in absurd (cc (absent))
after-as (bare_alias n u) rest left t ends is = absurd (cc)
after-as (as_alias k n) rest left t ends is = record { name = n; alias = refl; words = cc }

-- an alias without AS, or none
pub alias-found : (a : Alias) (rest old new : List Terminal) (found : Option Spelled) → ends_alias rest ≡ true → BeginsNot (t_key As) old →
    MatchOption found ((new ≡ old) × BeginsNoName old) (λ s. BeginsName s old new) →
    old ≡ words_of_alias a ++ rest → (found ≡ alias_of a) × (new ≡ rest)
alias-found no_alias rest old new None ends absent given is = (refl, given.0 ∙ is)
alias-found no_alias rest old new (Some s) ends absent (n, said, e) is = let not_so = ap ends_alias (sym e ∙ is) ∙ ends in absurd (cc (not_so))
alias-found (bare_alias n u) rest old new None ends absent given is = absurd (given.1 n rest is)
alias-found (bare_alias n u) rest old new (Some s) ends absent (m, said, e) is =
    let same : t_name m ∷ new ≡ t_name n ∷ rest = sym e ∙ is in
    let name : m ≡ n = cc (same) in
    (ap Some (said ∙ ap spelled name), cc (same))
alias-found (as_alias k n) rest old new found ends absent given is = absurd (absent (t_name n ∷ rest) (k, is))

-- a name, and no `.` after it
pub bare-only : (n : Ident) (o : Output) (rest left : List Terminal) → BeginsNot (t_mark Dot) left → t_name n ∷ left ≡ words_of_output o ++ rest →
    (Bare (spelled n) ≡ item_of o) × (left ≡ rest)
bare-only n (every s) rest left absent is = absurd (cc)
bare-only n (every_of q d s) rest left absent is = absurd (absent (t_mark Star s ∷ rest) (d, cc))
bare-only n (one (bare m)) rest left absent is = let name : n ≡ m = cc in (ap (λ i. Bare (spelled i)) name, cc)
bare-only n (one (qualified q d m)) rest left absent is = absurd (absent (t_name m ∷ rest) (d, cc))

-- a name and a `.`, and no `*` after it
pub record AfterDot (n : Ident) (o : Output) (rest left : List Terminal) : Type 0 where
  pub name : Ident
  pub item : Qualified (spelled n) (spelled name) ≡ item_of o
  pub words : left ≡ t_name name ∷ rest

pub after-dot : (n : Ident) (o : Output) (rest left : List Terminal) (t : Token) → ends_item rest ≡ true → BeginsNot (t_mark Star) left →
    t_name n ∷ t_mark Dot t ∷ left ≡ words_of_output o ++ rest → AfterDot n o rest left
after-dot n (every s) rest left t ends absent is = absurd (cc)
after-dot n (every_of q d s) rest left t ends absent is = absurd (absent rest (s, cc))
after-dot n (one (bare m)) rest left t ends absent is = let so : t_mark Dot t ∷ left ≡ rest = cc in let not_so = ap ends_item so ∙ ends in absurd (cc (not_so))
after-dot n (one (qualified q d m)) rest left t ends absent is = let first : n ≡ q = cc in record { name = m; item = ap (λ i. Qualified (spelled i) (spelled m)) first; words = cc }

-- an item that is no `*` begins with a name
pub record BeginsSo (old : List Terminal) : Type 0 where
  pub name : Ident
  pub left : List Terminal
  pub words : old ≡ t_name name ∷ left

pub begins-so : (o : Output) (rest old : List Terminal) → BeginsNot (t_mark Star) old → old ≡ words_of_output o ++ rest → BeginsSo old
begins-so (every s) rest old absent is = absurd (absent rest (s, is))
begins-so (every_of q d s) rest old absent is = record { name = q; left = t_mark Dot d ∷ t_mark Star s ∷ rest; words = is }
begins-so (one (bare n)) rest old absent is = record { name = n; left = rest; words = is }
begins-so (one (qualified q d n)) rest old absent is = record { name = q; left = t_mark Dot d ∷ t_name n ∷ rest; words = is }

-- further items and FROM
abbrev pub fronted : List (Mark × Output) → Key → List Terminal → List Terminal
fronted os f rest = words_of_outputs os ++ t_key From f ∷ rest

-- what follows an item is no `.`
pub items-end : (os : List (Mark × Output)) (f : Key) (rest : List Terminal) → ends_item (fronted os f rest) ≡ true
items-end [] f rest = refl
items-end ((m, o) ∷ os) f rest = refl

-- the item after a comma
pub record NextItem (ys : List (Mark × Output)) (left : List Terminal) (f : Key) (rest : List Terminal) : Type 0 where
  pub one : Output
  pub more : List (Mark × Output)
  pub all : items_of ys ≡ item_of one ∷ items_of more
  pub words : left ≡ words_of_output one ++ fronted more f rest

pub next-item : (ys : List (Mark × Output)) (left : List Terminal) (t f : Token) (rest : List Terminal) → t_mark Comma t ∷ left ≡ fronted ys f rest → NextItem ys left f rest
next-item [] left t f rest is = absurd (cc)
next-item ((m, o) ∷ os) left t f rest is =
    let so : left ≡ (words_of_output o ++ words_of_outputs os) ++ t_key From f ∷ rest = cc in
    record { one = o; more = os; all = refl; words = so ∙ append_assoc (words_of_output o) (words_of_outputs os) (t_key From f ∷ rest) }

pub no-item : (ys : List (Mark × Output)) (old : List Terminal) (f : Key) (rest : List Terminal) → BeginsNot (t_mark Comma) old → old ≡ fronted ys f rest →
    (items_of ys ≡ []) × (old ≡ t_key From f ∷ rest)
no-item [] old f rest absent is = (refl, is)
no-item ((m, o) ∷ os) old f rest absent is = absurd (absent _ (m, is))

-- one more item, and what is still to come
pub pushed : (old now : List Item) (x next : Item) (more whole : List Item) → now ≡ old ++ x ∷ [] → x ≡ next → old ++ next ∷ more ≡ whole → now ++ more ≡ whole
pushed old now x next more whole grown is so = rw (grown, is, append_assoc) so

-- no name is found
pub absent-name : (found : Option Spelled) (old new : List Terminal) → found ≡ None →
    MatchOption found ((new ≡ old) × BeginsNoName old) (λ s. BeginsName s old new) → (n : Ident) (rest : List Terminal) → ¬ (old ≡ t_name n ∷ rest)
absent-name None old new none given n rest is = given.1 n rest is
absent-name (Some s) old new none given n rest is = absurd (cc (none))

-- a name that is found
pub found-name : (found : Option Spelled) (s : Spelled) (old new : List Terminal) → found ≡ Some s →
    MatchOption found ((new ≡ old) × BeginsNoName old) (λ x. BeginsName x old new) → (n : Ident) (rest : List Terminal) → old ≡ t_name n ∷ rest → (s ≡ spelled n) × (new ≡ rest)
found-name None s old new there given n rest is = absurd (cc (there))
found-name (Some x) s old new there (m, said, e) n rest is =
    let same : t_name m ∷ new ≡ t_name n ∷ rest = sym e ∙ is in
    let name : m ≡ n = cc (same) in
    let first : s ≡ x = cc (there) in
    (first ∙ (said ∙ ap spelled name), cc (same))

-- an alias without AS, or none, where there is memory for it
pub alias-read : {E : Type 0} (r : Result (Option Spelled) E) (Q : E → Type 0) (first old new : List Terminal) → old ≡ first → BeginsNot (t_key As) first →
    MatchResult r (λ found. MatchOption found ((new ≡ old) × BeginsNoName old) (λ s. BeginsName s old new)) Q →
    IfOk r (λ x. (a : Alias) (rest : List Terminal) → ends_alias rest ≡ true → first ≡ words_of_alias a ++ rest → (x ≡ alias_of a) × (new ≡ rest))
alias-read (Ok found) Q first old new left absent given = λ a rest ends is.
    alias-found a rest old new found ends (λ more (t, e). absent more (t, sym left ∙ e)) given (left ∙ is)
alias-read (Err e) Q first old new left absent given = tt
