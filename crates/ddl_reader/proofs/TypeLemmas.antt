-- What the next words tell of a column's type.
use Rattle.std.proofs.Common.{◌≡◌, true, List, [], ◌∷◌, ◌++◌, drop, Option, Some, None, Result, Ok, Err, refl, sym, ap, subst, ◌∙◌, append_assoc, inl, inr}
use Rattle.std.specs.Result.{OnOk}
use Rattle.pg_value.specs.declared.value.SqlType.TheVariants as types
use Rattle.sql_lex.specs.declared.tokens.Token.{Token}
use Rattle.sql_grammar.specs.declared.class.Free.{Free}
use Rattle.sql_grammar.specs.declared.class.Free.TheVariants.{Character, Time, Timestamp, Varying, Without, Zone}
use Rattle.sql_grammar.specs.declared.class.Symbol.TheVariants.{Close, Comma, Open}
use Rattle.sql_grammar.specs.declared.class.Word.TheVariants.{With}
use Rattle.sql_grammar.specs.Terminals.{Terminal, Ident, Said, free, token_of, t_key, t_mark, t_name, t_number}
use Rattle.sql_grammar.specs.Faults.{bytes_of}
use Rattle.sql_grammar.specs.Syntax.{Mark, Modifiers, no_modifiers, modifiers, Nulls, unwritten, not_null, nullable, TypeTree, named_type, character_varying, timestamp_with_zone, timestamp_without_zone, ColDef, coldef}
use Rattle.sql_grammar.specs.Words.{words_of_coldef, words_of_modifiers, words_of_nulls, words_of_numbers, words_of_type}
use Rattle.sql_grammar.proofs.ExprTrees.{tested}
use Rattle.expr_reader.specs.declared.cursor.Number.{Number}
use Rattle.expr_reader.specs.Lists.{further_parts}
use Rattle.expr_reader.specs.work.Reading.{free_name, numbered, BeginsNot, BeginsNumber, IsNextToken}
use Rattle.ddl_reader.specs.declared.types.Numbers.{Numbers}
use Rattle.ddl_reader.specs.declared.types.TypeRead.{TypeRead}
use Rattle.ddl_reader.specs.declared.types.TypeWord.{TypeWord}
use Rattle.ddl_reader.specs.declared.types.TypeWord.TheVariants.{Fraction, Length}
use Rattle.ddl_reader.specs.Columns.{Kind, kind_of, numbers_in}
use Rattle.ddl_reader.specs.declared.types.Numbers.TheVariants as numbers
use Rattle.ddl_reader.specs.Types.{type_bound, type_sized, word_named}
use Rattle.ddl_reader.specs.work.AsMeant.{ends_column, ends_modifiers, ends_nulls, ends_type}
use Rattle.ddl_reader.specs.work.Columns.{numbers_read, type_read, words_left, IsUnzoned}

-- a number that is taken
pub number-taken : (k : Said) (rest old new : List Terminal) (n : Number) → BeginsNumber n old new → old ≡ t_number k ∷ rest → (n ≡ numbered k) × (new ≡ rest)
number-taken k rest old new n (said, says, first) is =
    let same : t_number said ∷ new ≡ t_number k ∷ rest = sym first ∙ is in
    let one : said ≡ k = cc (same) in
    (says ∙ ap numbered one, cc (same))

-- a further number, where a comma is next
pub record AfterComma (ns : List (Mark × Said)) (m : Mark) (rest left : List Terminal) : Type 0 where
  pub mark : Mark
  pub number : Said
  pub more : List (Mark × Said)
  pub all : ns ≡ (mark, number) ∷ more
  pub words : left ≡ t_number number ∷ words_left more m rest

pub after-comma : (ns : List (Mark × Said)) (m : Mark) (rest old left : List Terminal) (t : Token) → old ≡ t_mark Comma t ∷ left → old ≡ words_left ns m rest → AfterComma ns m rest left
after-comma [] m rest old left t took is = absurd (cc (took, is))
after-comma ((k, n) ∷ ns) m rest old left t took is =
    let same : t_mark Comma t ∷ left ≡ t_mark Comma k ∷ t_number n ∷ words_left ns m rest = sym took ∙ is in
    record { mark = k; number = n; more = ns; all = refl; words = cc (same) }

-- no further number, where none is
pub no-comma : (ns : List (Mark × Said)) (m : Mark) (rest old : List Terminal) → BeginsNot (t_mark Comma) old → old ≡ words_left ns m rest → (ns ≡ []) × (drop 1 old ≡ rest)
no-comma [] m rest old none is = (refl, ap (drop 1) is)
no-comma ((k, n) ∷ ns) m rest old none is = absurd (none _ (k, is))

-- the first of the numbers in parentheses
pub record AfterOpen (ms : Modifiers) (rest left : List Terminal) : Type 0 where
  pub number : Said
  pub more : List (Mark × Said)
  pub close : Mark
  pub all : numbers_in ms ≡ number ∷ further_parts (λ k. k) more
  pub words : left ≡ t_number number ∷ words_left more close rest

pub after-open : (ms : Modifiers) (rest old left : List Terminal) (t : Token) → ends_modifiers rest ≡ true → old ≡ t_mark Open t ∷ left → old ≡ words_of_modifiers ms ++ rest → AfterOpen ms rest left
after-open no_modifiers rest old left t ends took is = absurd (tested ends_modifiers rest (t_mark Open t ∷ left) ends refl (sym is ∙ took))
after-open (modifiers o n ns m) rest old left t ends took is =
    let same : t_mark Open t ∷ left ≡ t_mark Open o ∷ t_number n ∷ ((words_of_numbers ns ++ t_mark Close m ∷ []) ++ rest) = sym took ∙ is in
    let words : left ≡ t_number n ∷ ((words_of_numbers ns ++ t_mark Close m ∷ []) ++ rest) = cc (same) in
    record { number = n; more = ns; close = m; all = refl; words = words ∙ ap (λ ws. t_number n ∷ ws) (append_assoc (words_of_numbers ns) (t_mark Close m ∷ []) rest) }

pub no-open : (ms : Modifiers) (rest old : List Terminal) → BeginsNot (t_mark Open) old → old ≡ words_of_modifiers ms ++ rest → (numbers_in ms ≡ []) × (old ≡ rest)
no-open no_modifiers rest old none is = (refl, is)
no-open (modifiers o n ns m) rest old none is = absurd (none _ (o, is))

-- what stands behind a type ends its numbers, and what stands behind a column ends its type
pub type-end : (rest : List Terminal) → ends_type rest ≡ true → ends_modifiers rest ≡ true
type-end (t_mark Open _ ∷ _) ends = ends
type-end _ ends = refl

pub column-type : (nulls : Nulls) (rest : List Terminal) → ends_column rest ≡ true → ends_type (words_of_nulls nulls ++ rest) ≡ true
column-type unwritten (t_mark Comma _ ∷ _) ends = refl
column-type unwritten (t_mark Close _ ∷ _) ends = refl
column-type unwritten _ ends = absurd (cc (ends))
column-type (not_null a b) rest ends = refl
column-type (nullable a) rest ends = refl

pub column-nulls : (rest : List Terminal) → ends_column rest ≡ true → ends_nulls rest ≡ true
column-nulls (t_mark Comma _ ∷ _) ends = refl
column-nulls (t_mark Close _ ∷ _) ends = refl
column-nulls _ ends = absurd (cc (ends))

abbrev pub type_by : Option TypeWord → Token → Numbers → TypeRead
type_by word token ns = record { word = word; token = token; numbers = ns }

-- a type as it is written, of these words
abbrev kind_by : Option TypeWord → Token → Modifiers → Kind
kind_by word token ms = record { word = word; at = token; numbers = numbers_in ms }

-- a type that is read
pub read-as : (t : TypeTree) (word : Option TypeWord) (token : Token) (ms : Modifiers) (ns : Numbers) → kind_of t ≡ kind_by word token ms → ns ≡ numbers_read (numbers_in ms) →
    record { word = word; token = token; numbers = ns } ≡ type_read (kind_of t)
read-as t word token ms ns kind numbers = ap (λ (x : Numbers). type_by word token x) numbers ∙ sym (ap type_read kind)

-- a type has a first word, and where that is a word in its place, its token is the type's
pub first-word : (t : TypeTree) (rest : List Terminal) → (w : Terminal) × (left : List Terminal) × (words_of_type t ++ rest ≡ w ∷ left)
first-word (named_type n ms) rest = (_, _, refl)
first-word (character_varying c v ms) rest = (_, _, refl)
first-word (timestamp_with_zone s ms w u z) rest = (_, _, refl)
first-word (timestamp_without_zone s ms w u z) rest = (_, _, refl)

pub put-first : (f : Free) (k token : Token) (old new words : List Terminal) → old ≡ free_name f k ∷ new → IsNextToken token old → old ≡ words → free_name f token ∷ new ≡ words
put-first f k token old new words took next is =
    let place : token ≡ k = next (free_name f k) new took in
    ap (λ x. free_name f x ∷ new) place ∙ (sym took ∙ is)

-- what stands behind TIMESTAMP
pub record ZoneNext (t : TypeTree) (rest old : List Terminal) (token : Token) : Type 0 where
  pub sizes : Modifiers
  pub behind : List Terminal
  pub ends : ends_modifiers behind ≡ true
  pub words : old ≡ words_of_modifiers sizes ++ behind
  pub zoned : (k : Token) (left : List Terminal) → behind ≡ t_key With k ∷ left → (drop 2 left ≡ rest) × (kind_of t ≡ kind_by (Some (Fraction types.TimestampTz)) token sizes)
  pub unzoned : (k : Token) (left : List Terminal) → behind ≡ free_name Without k ∷ left → (drop 2 left ≡ rest) × (kind_of t ≡ kind_by (Some (Fraction types.Timestamp)) token sizes)
  pub plain : BeginsNot (t_key With) behind → BeginsNot (free_name Without) behind → (behind ≡ rest) × (kind_of t ≡ kind_by (Some (Fraction types.Timestamp)) token sizes)

pub zone-next : (t : TypeTree) (rest old : List Terminal) (token : Token) → ends_type rest ≡ true → free_name Timestamp token ∷ old ≡ words_of_type t ++ rest → ZoneNext t rest old token
zone-next (named_type n ms) rest old token ends is =
    let name : n ≡ free Timestamp token = cc (is) in
    record {
      sizes = ms;
      behind = rest;
      ends = type-end rest ends;
      words = cc (is);
      zoned = λ k left wrong. absurd (tested ends_type rest (t_key With k ∷ left) ends refl wrong);
      unzoned = λ k left wrong. absurd (tested ends_type rest (free_name Without k ∷ left) ends refl wrong);
      plain = λ a b. (refl, ap (λ x. kind_of (named_type x ms)) name);
    }
zone-next (character_varying c v ms) rest old token ends is = absurd (cc (is))
zone-next (timestamp_with_zone s ms w u z) rest old token ends is =
    let zone : List Terminal = t_key With w ∷ t_name (free Time u) ∷ t_name (free Zone z) ∷ [] in
    let place : s ≡ token = cc (is) in
    let words : old ≡ (words_of_modifiers ms ++ zone) ++ rest = cc (is) in
    record {
      sizes = ms;
      behind = zone ++ rest;
      ends = refl;
      words = words ∙ append_assoc (words_of_modifiers ms) zone rest;
      zoned = λ k left first. (sym (ap (drop 3) first), ap (λ x. kind_by (Some (Fraction types.TimestampTz)) x ms) place);
      unzoned = λ k left wrong. absurd (cc (wrong));
      plain = λ a b. absurd (a _ (w, refl));
    }
zone-next (timestamp_without_zone s ms w u z) rest old token ends is =
    let zone : List Terminal = t_name (free Without w) ∷ t_name (free Time u) ∷ t_name (free Zone z) ∷ [] in
    let place : s ≡ token = cc (is) in
    let words : old ≡ (words_of_modifiers ms ++ zone) ++ rest = cc (is) in
    record {
      sizes = ms;
      behind = zone ++ rest;
      ends = refl;
      words = words ∙ append_assoc (words_of_modifiers ms) zone rest;
      zoned = λ k left wrong. absurd (cc (wrong));
      unzoned = λ k left first. (sym (ap (drop 3) first), ap (λ x. kind_by (Some (Fraction types.Timestamp)) x ms) place);
      plain = λ a b. absurd (b _ (w, refl));
    }

pub unzoned-told : (t : TypeTree) (rest old : List Terminal) (token : Token) (z : ZoneNext t rest old token) (mid new : List Terminal) → mid ≡ z.behind → IsUnzoned mid new → (kind_of t ≡ kind_by (Some (Fraction types.Timestamp)) token z.sizes) × (new ≡ rest)
unzoned-told t rest old token z mid new at (inl (k, left, first, after)) = let told = z.unzoned k left (sym at ∙ first) in (told.1, after ∙ told.0)
unzoned-told t rest old token z mid new at (inr (a, b, same)) =
    let told = z.plain (subst (BeginsNot (t_key With)) at a) (subst (BeginsNot (free_name Without)) at b) in
    (told.1, same ∙ (at ∙ told.0))

-- what stands behind CHARACTER
pub record CharacterNext (t : TypeTree) (rest old : List Terminal) (token : Token) : Type 0 where
  pub sizes : Modifiers
  pub varying : (k : Token) (left : List Terminal) → old ≡ free_name Varying k ∷ left → (left ≡ words_of_modifiers sizes ++ rest) × (kind_of t ≡ kind_by (Some Length) token sizes)
  pub plain : BeginsNot (free_name Varying) old → (old ≡ words_of_modifiers sizes ++ rest) × (kind_of t ≡ kind_by None token sizes)

no-varying : (ms : Modifiers) (rest left : List Terminal) (k : Token) → ends_type rest ≡ true → words_of_modifiers ms ++ rest ≡ free_name Varying k ∷ left → ⊥
no-varying no_modifiers rest left k ends is = tested ends_type rest (free_name Varying k ∷ left) ends refl is
no-varying (modifiers o n ns m) rest left k ends is = absurd (cc (is))

pub character-next : (t : TypeTree) (rest old : List Terminal) (token : Token) → ends_type rest ≡ true → free_name Character token ∷ old ≡ words_of_type t ++ rest → CharacterNext t rest old token
character-next (named_type n ms) rest old token ends is =
    let name : n ≡ free Character token = cc (is) in
    let words : old ≡ words_of_modifiers ms ++ rest = cc (is) in
    record {
      sizes = ms;
      varying = λ k left first. absurd (no-varying ms rest left k ends (sym words ∙ first));
      plain = λ a. (words, ap (λ x. kind_of (named_type x ms)) name);
    }
character-next (character_varying c v ms) rest old token ends is =
    let place : c ≡ token = cc (is) in
    let words : old ≡ t_name (free Varying v) ∷ (words_of_modifiers ms ++ rest) = cc (is) in
    record {
      sizes = ms;
      varying = λ k left first. let same : free_name Varying k ∷ left ≡ free_name Varying v ∷ (words_of_modifiers ms ++ rest) = sym first ∙ words in (cc (same), ap (λ x. kind_by (Some Length) x ms) place);
      plain = λ a. absurd (a _ (v, words));
    }
character-next (timestamp_with_zone s ms w u z) rest old token ends is = absurd (cc (is))
character-next (timestamp_without_zone s ms w u z) rest old token ends is = absurd (cc (is))

-- a type by its name alone
pub record NamedNext (t : TypeTree) (rest old : List Terminal) : Type 0 where
  pub name : Ident
  pub sizes : Modifiers
  pub kind : kind_of t ≡ kind_by (word_named (bytes_of name)) (token_of name) sizes
  pub words : old ≡ t_name name ∷ (words_of_modifiers sizes ++ rest)

pub named-next : (t : TypeTree) (rest old : List Terminal) → BeginsNot (free_name Timestamp) old → BeginsNot (free_name Character) old → old ≡ words_of_type t ++ rest → NamedNext t rest old
named-next (named_type n ms) rest old a b is = record { name = n; sizes = ms; kind = refl; words = is }
named-next (character_varying c v ms) rest old a b is = absurd (b _ (c, is))
named-next (timestamp_with_zone s ms w u z) rest old a b is = absurd (a _ (s, is))
named-next (timestamp_without_zone s ms w u z) rest old a b is = absurd (a _ (s, is))

-- a column
pub record ColumnNext (x : ColDef) (rest old : List Terminal) : Type 0 where
  pub name : Ident
  pub kind : TypeTree
  pub nulls : Nulls
  pub def : x ≡ coldef name kind nulls
  pub words : old ≡ t_name name ∷ (words_of_type kind ++ (words_of_nulls nulls ++ rest))

pub column-next : (x : ColDef) (rest old : List Terminal) → old ≡ words_of_coldef x ++ rest → ColumnNext x rest old
column-next (coldef n t nulls) rest old is = record {
  name = n;
  kind = t;
  nulls = nulls;
  def = refl;
  words = is ∙ ap (λ ws. t_name n ∷ ws) (append_assoc (words_of_type t) (words_of_nulls nulls) rest);
}

-- what holds of each outcome of a call
pub on-ok : {T E P : Type 0} (r : Result T E) → P → OnOk r P
on-ok (Ok x) p = p
on-ok (Err e) p = tt

-- the numbers that were read
pub one-number : (ns : List Said) (n : Number) → numbers.One n ≡ numbers_read ns → (said : Said) × (n ≡ numbered said) × (ns ≡ said ∷ [])
one-number [] n is = absurd (cc (is))
one-number (a ∷ []) n is = (a, cc (is), refl)
one-number (a ∷ b ∷ []) n is = absurd (cc (is))
one-number (a ∷ b ∷ d ∷ ns) n is = absurd (cc (is))

pub two-numbers : (ns : List Said) (n m : Number) → numbers.Two n m ≡ numbers_read ns → (first : Said) × (second : Said) × (n ≡ numbered first) × (m ≡ numbered second) × (ns ≡ first ∷ second ∷ [])
two-numbers [] n m is = absurd (cc (is))
two-numbers (a ∷ []) n m is = absurd (cc (is))
two-numbers (a ∷ b ∷ []) n m is = (a, b, cc (is), cc (is), refl)
two-numbers (a ∷ b ∷ d ∷ ns) n m is = absurd (cc (is))

-- the type of words and numbers that are read
pub bound-as : (k : Kind) (word : TypeWord) (ns : List Said) → k.word ≡ Some word → k.numbers ≡ ns → type_sized k.at word ns ≡ type_bound k.at k.word k.numbers
bound-as k word ns says all = sym (ap (λ (o : Option TypeWord). type_bound k.at o k.numbers) says ∙ ap (type_sized k.at word) all)
