-- How a key is found by what is written of it. Own.
use Rattle.std.specs.Prelude.{◌≡◌, ◌<◌, ◌≤◌, ◌++◌, ℕ, Bool, true, false, not, cond, ◌&&◌, ◌==◌, List, [], codes, get_or, length, All, Option, Some, None, option_map, Vec}
use Rattle.std.specs.List.{list_all}
use Rattle.std.specs.declared.alloc.Global.{Global}
use Rattle.pg_base.specs.Names.{is_in_name}
use Rattle.pg_base.specs.declared.numbers.RelNo.{RelNo}
use Rattle.pg_value.specs.declared.operators.Family.{Family}
use Rattle.pg_expr.specs.declared.operand.ColRef.{ColRef}
use Rattle.catalog.specs.Contents.{Contents, name_at}
use Rattle.catalog.specs.Range.{relation_at, table_of}
use Rattle.eq_classes.specs.Classes.{has_member, is_abs}
use Rattle.eq_classes.specs.Clauses.{Set, first_in}
use Rattle.eq_classes.specs.Listing.{class_at}
use Rattle.eq_classes.specs.declared.classes.ClassNo.{ClassNo}
use Rattle.pathkeys.specs.work.Finding.{class_numbers}
use Rattle.pathkeys.specs.Keys.{Keys}
use Rattle.certificate_text.specs.explain_Texts.{key_text, keys_text}
use Rattle.certificate_text.specs.HasText.{HasKeysText}
use Rattle.certificate_text.specs.work.Words.{stops}
use Rattle.sql_query.specs.Queries.{Query, width}
use Rattle.sql_query.specs.WellBound.{IsColumnOf}
use Rattle.certificate_entries.specs.declared.line_keys.KeyWords.{KeyWords}
use Rattle.certificate_entries.specs.work.Parts.{has_no_comma}

-- a text goes on no key: it begins with no byte of a name, and not with a space before the first letter of a family
abbrev pub ends_key : List ℕ → Bool
ends_key text = stops text && not (get_or text 0 0 == 32 && get_or text 1 0 == 105)

-- a class of a number that has a member inside a set
pub record HasKeyText (q : Query) (s : Set) (n : ℕ) : Type 0 where
  pub class : n < length q.classes.classes
  pub member : ¬ (first_in (class_at q.classes.classes n) s ≡ None)

-- a class of a number that has a column, of a family
pub record IsClassIn (q : Query) (x : ColRef) (f : Family) (n : ℕ) : Type 0 where
  pub class : n < length q.classes.classes
  pub member : has_member (class_at q.classes.classes n) x ≡ true
  pub family : (class_at q.classes.classes n).family ≡ f

-- a class of a number that has a column, and whether its family is that of absolute values
pub record IsClassOf (q : Query) (x : ColRef) (abs : Bool) (n : ℕ) : Type 0 where
  pub class : n < length q.classes.classes
  pub member : has_member (class_at q.classes.classes n) x ≡ true
  pub family : is_abs (class_at q.classes.classes n).family ≡ abs

-- a column of the query by the alias of its relation and its name
pub record IsNamed (c : Contents) (q : Query) (first last : List ℕ) (x : ColRef) : Type 0 where
  pub column : IsColumnOf c q.range x
  pub alias : (relation_at q.range x.rel).1 ≡ first
  pub name : name_at c (table_of q.range x) x.col ≡ last

-- what is written of a key before its direction
abbrev pub family_if : Bool → List ℕ
family_if abs = cond abs (codes " int_abs_ops") []

-- what was read of a key is the alias, the column's name and whether its family is that of absolute values
abbrev pub AreWords : Option KeyWords → List ℕ → List ℕ → Bool → Type 0
AreWords None alias name abs = ⊥
AreWords (Some w) alias name abs = (w.alias.now ≡ alias) × (w.name.now ≡ name) × (w.abs ≡ abs)

-- the class of the key at a place of a list
abbrev pub nth_key : List ClassNo → ℕ → ℕ
nth_key keys i = get_or (class_numbers keys) i 0

-- a relation of the query has an alias
abbrev pub HasAlias : Query → List ℕ → RelNo → Type 0
HasAlias q alias r = (r.0 < width q) × ((relation_at q.range r).1 ≡ alias)

-- each relation of the query with an alias is the one found
abbrev pub FindsRelation : Query → List ℕ → Option RelNo → Type 0
FindsRelation q alias result = (r : RelNo) → r.0 < width q → (relation_at q.range r).1 ≡ alias → result ≡ Some r

-- each column of the query by that alias and that name is the one found
abbrev pub FindsColumn : Contents → Query → List ℕ → List ℕ → Option ColRef → Type 0
FindsColumn c q first last result = (x : ColRef) → IsNamed c q first last x → result ≡ Some x

-- what is written of a key before its direction is read, and what follows is left
abbrev pub ReadsKeyWords : List ℕ → List ℕ → Option KeyWords → Type 0
ReadsKeyWords old new result =
    (alias name rest : List ℕ) (abs : Bool) → list_all is_in_name alias ≡ true → list_all is_in_name name ≡ true →
    ends_key rest ≡ true → old ≡ (alias ++ (codes "." ++ name)) ++ (family_if abs ++ rest) →
    AreWords result alias name abs × (new ≡ rest)

-- each of some classes has a member inside a set
abbrev pub HaveKeyTexts : Query → Set → List ClassNo → Type 0
HaveKeyTexts q s keys = All (HasKeyText q s) (class_numbers keys)

-- keys that can be written, one or more
abbrev pub HasSomeKeys : Query → Set → Keys → Type 0
HasSomeKeys q s keys = HasKeysText q s keys × (1 ≤ length keys)

module _ (c : Contents) (q : Query) where
  -- keys in a row, one or more, are read, and what follows is left
  abbrev pub ReadsKeys : Set → List ℕ → List ℕ → Option (Vec ClassNo Global) → Type 0
  ReadsKeys s old new result =
      (keys : List ℕ) (rest : List ℕ) → All (HasKeyText q s) keys → 1 ≤ length keys →
      ends_key rest ≡ true → has_no_comma rest ≡ true → old ≡ keys_text c q s keys ++ rest →
      (option_map (λ (ks : Vec ClassNo Global). class_numbers ks.items) result ≡ Some keys) × (new ≡ rest)

  -- a key is read, and what follows is left
  abbrev pub ReadsKey : Set → List ℕ → List ℕ → Option ClassNo → Type 0
  ReadsKey s old new result =
      (n : ℕ) (rest : List ℕ) → HasKeyText q s n → ends_key rest ≡ true →
      old ≡ key_text c q s n ++ rest → (option_map (λ (k : ClassNo). k.0) result ≡ Some n) × (new ≡ rest)

  -- each class that has such words before its direction, as a key inside a set, is the one found
  abbrev pub FindsClass : Set → KeyWords → Option ClassNo → Type 0
  FindsClass s words result =
      (n : ℕ) (x : ColRef) → HasKeyText q s n → first_in (class_at q.classes.classes n) s ≡ Some x →
      IsNamed c q words.alias.now words.name.now x → is_abs (class_at q.classes.classes n).family ≡ words.abs →
      option_map (λ (k : ClassNo). k.0) result ≡ Some n

  -- keys that are different are read so
  abbrev pub ReadsKeyList : Set → List ℕ → List ℕ → Option Keys → Type 0
  ReadsKeyList s old new result =
      (keys : List ℕ) (rest : List ℕ) → HasKeysText q s keys → 1 ≤ length keys →
      ends_key rest ≡ true → has_no_comma rest ≡ true → old ≡ keys_text c q s keys ++ rest → (result ≡ Some keys) × (new ≡ rest)
