-- Keys read: relations and columns by name, and what is written of a key.
use Rattle.std.proofs.Common.{◌≡◌, ◌<◌, ℕ, Bool, true, false, not, ◌&&◌, ◌==◌, List, [], ◌++◌, codes, length, get_or, refl, sym, ap, ap₂, ◌∙◌, subst, arith}
use Rattle.std.specs.Prelude.{Option, Some, None, option_map}
use Rattle.std.specs.List.{list_all}
use Rattle.std.proofs.lemmas.Bool.{and_parts, true≢false}
use Rattle.std.proofs.lemmas.List.{append_assoc, get_or-map, length-map}
use Rattle.pg_base.specs.Names.{is_in_name}
use Rattle.pg_base.specs.declared.numbers.RelNo.{RelNo}
use Rattle.pg_base.specs.declared.numbers.TableNo.{TableNo}
use Rattle.pg_value.specs.declared.operators.Family.{Family}
use Rattle.pg_value.specs.declared.operators.Family.TheVariants as families
use Rattle.pg_expr.specs.declared.operand.ColRef.{ColRef}
use Rattle.catalog.specs.Contents.{Contents, IsLawful, IsTable, name_at, no_table}
use Rattle.catalog.specs.Range.{Range, aliases, relation_at, table_of}
use Rattle.eq_classes.specs.Classes.{Class, has_member, is_abs}
use Rattle.eq_classes.specs.Clauses.{Set, ClassTable, first_in}
use Rattle.eq_classes.specs.Listing.{blank, class_at}
use Rattle.eq_classes.specs.declared.classes.ClassNo.{ClassNo}
use Rattle.eq_classes.proofs.ListLemmas.{IsIn, found_in, in_at}
use Rattle.eq_classes.proofs.SoundLemmas.{in_member}
use Rattle.certificate_text.specs.explain_Texts.{column_text, direction_text, family_text, key_text, member_text}
use Rattle.certificate_text.specs.work.Words.{stops}
use Rattle.certificate_text.specs.sort_rows_ColumnLemmas.{member_is}
use Rattle.sql_query.specs.Queries.{Query, width}
use Rattle.sql_query.specs.WellBound.{IsColumnOf, IsWellBound}
use Rattle.certificate_entries.specs.work.Keys.{AreWords, HasKeyText, IsClassOf, IsNamed, ends_key, family_if}
use Rattle.certificate_entries.specs.declared.line_keys.KeyWords.{KeyWords}
use Rattle.certificate_entries.proofs.NameLemmas.{one-place}
use Rattle.pg_base.proofs.NameLemmas.{name-word}

module _ (c : Contents) (q : Query) (bound : IsWellBound c q) where
  alias-at : (n : ℕ) (d : TableNo × List ℕ) → n < length q.range → get_or (aliases q.range) n [] ≡ (get_or q.range n d).1
  alias-at n d lt = get_or-map (λ (x : TableNo × List ℕ). x.1) q.range n d [] lt

  -- one relation has an alias
  pub relation-one : (xs : Range) (n : ℕ) (item : TableNo × List ℕ) (text alias : List ℕ) (r : RelNo) → xs ≡ q.range → item ≡ get_or xs n item → n < length xs → text ≡ item.1 → text ≡ alias →
      r.0 < width q → (relation_at q.range r).1 ≡ alias → Some (record { 0 = n }) ≡ Some r
  relation-one xs n item text alias r same is lt of named low other =
      let here : n < length q.range = subst (λ (l : Range). n < length l) same lt in
      let wide = length-map q.range (λ (x : TableNo × List ℕ). x.1) in
      let at : item ≡ get_or q.range n item = is ∙ ap (λ (l : Range). get_or l n item) same in
      let one : get_or (aliases q.range) n [] ≡ alias = alias-at n item here ∙ (ap (λ (x : TableNo × List ℕ). x.1) (sym at) ∙ (sym of ∙ named)) in
      let two : get_or (aliases q.range) r.0 [] ≡ alias = alias-at r.0 (record { 0 = 0 }, []) low ∙ other in
      let equal : n ≡ r.0 = one-place (aliases q.range) bound.range.distinct n r.0 (omega (arith, wide, here)) (omega (arith, wide, low)) [] (one ∙ sym two) in
      ap (λ (m : ℕ). Some (record { 0 = m })) equal

  alias-word : (x : ColRef) → IsColumnOf c q.range x → list_all is_in_name (relation_at q.range x.rel).1 ≡ true
  alias-word x is = name-word (relation_at q.range x.rel).1 (bound.range.names x.rel.0 (record { 0 = 0 }, []) is.relation)

  column-word : IsLawful c → (x : ColRef) → IsColumnOf c q.range x → list_all is_in_name (name_at c (table_of q.range x) x.col) ≡ true
  column-word lawful x is =
      let made : IsTable c (table_of q.range x) = bound.range.tables x.rel.0 (record { 0 = 0 }, []) is.relation in
      let table = lawful.tables (table_of q.range x).0 no_table made in
      let wide = table.width in
      let column = is.column in
      name-word (name_at c (table_of q.range x) x.col) (table.names x.col.0 [] (omega (arith, wide, column)))

  family-is : (f : Family) → family_text f ≡ family_if (is_abs f)
  family-is families.IntAbs = refl
  family-is f = refl

  ends-direction : (a b : Bool) (rest : List ℕ) → ends_key rest ≡ true → ends_key (direction_text a b ++ rest) ≡ true
  ends-direction true true rest h = refl
  ends-direction true false rest h = refl
  ends-direction false true rest h = refl
  ends-direction false false rest h = h

  -- the words of a key, and its direction behind them
  pub record AreRead (set : Set) (n : ℕ) (result : Option KeyWords) (new rest : List ℕ) : Type 0 where
    pub column : ColRef
    pub first : first_in (class_at q.classes.classes n) set ≡ Some column
    pub is : IsColumnOf c q.range column
    pub words : AreWords result (relation_at q.range column.rel).1 (name_at c (table_of q.range column) column.col) (is_abs (class_at q.classes.classes n).family)
    pub left : new ≡ direction_text (class_at q.classes.classes n).descending (class_at q.classes.classes n).nulls_first ++ rest

  pub words-read : IsLawful c → (set : Set) (n : ℕ) (rest old new : List ℕ) (result : Option KeyWords) → HasKeyText q set n → ends_key rest ≡ true →
      ((alias name rest : List ℕ) (abs : Bool) → list_all is_in_name alias ≡ true → list_all is_in_name name ≡ true → ends_key rest ≡ true → old ≡ (alias ++ (codes "." ++ name)) ++ (family_if abs ++ rest) → AreWords result alias name abs × (new ≡ rest)) →
      old ≡ key_text c q set n ++ rest → AreRead set n result new rest
  words-read lawful set n rest old new result has ends only e = by (first_in k set) refl where
    k : Class
    k = class_at q.classes.classes n

    by : (o : Option ColRef) → first_in k set ≡ o → AreRead set n result new rest
    by None is = absurd (has.member is)
    by (Some x) is =
        let in-class : IsIn k q.classes.classes = in_at q.classes.classes n blank has.class in
        let of = member_is c q bound k in-class x (found_in (λ (y : ColRef). set y.rel.0) k.members x is) in
        let alias = (relation_at q.range x.rel).1 in
        let name = name_at c (table_of q.range x) x.col in
        let direction = direction_text k.descending k.nulls_first in
        let text : key_text c q set n ++ rest ≡ (alias ++ (codes "." ++ name)) ++ (family_if (is_abs k.family) ++ (direction ++ rest)) =
        ap (λ (o : Option ColRef). (member_text c q o ++ (family_text k.family ++ direction)) ++ rest) is
        ∙ (append_assoc (column_text c q x) (family_text k.family ++ direction) rest
        ∙ (ap (λ (l : List ℕ). column_text c q x ++ l) (append_assoc (family_text k.family) direction rest)
        ∙ ap (λ (l : List ℕ). column_text c q x ++ (l ++ (direction ++ rest))) (family-is k.family))) in
        let r = only alias name (direction ++ rest) (is_abs k.family) (alias-word x of) (column-word lawful x of) (ends-direction k.descending k.nulls_first rest ends) (e ∙ text) in
        record { column = x; first = is; is = of; words = r.0; left = r.1 }

  -- words that were read name the column
  pub named : (set : Set) (n : ℕ) (w : KeyWords) (new rest : List ℕ) → (r : AreRead set n (Some w) new rest) → IsNamed c q w.alias.now w.name.now r.column
  named set n w new rest r = record { column = r.is; alias = sym r.words.0; name = sym r.words.1 }

-- what behind the name is of the family
pub stops-family : (abs : Bool) (rest : List ℕ) → ends_key rest ≡ true → stops (family_if abs ++ rest) ≡ true
stops-family true rest h = refl
stops-family false rest h = (and_parts (stops rest) (not (get_or rest 0 0 == 32 && get_or rest 1 0 == 105)) h).0

pub family-read : (abs : Bool) (rest : List ℕ) (b : Bool) (old new : List ℕ) → ends_key rest ≡ true → ((r : List ℕ) → old ≡ codes " int_abs_ops" ++ r → (b ≡ true) × (new ≡ r)) → (b ≡ false → new ≡ old) → (b ≡ true → old ≡ codes " int_abs_ops" ++ new) →
    old ≡ family_if abs ++ rest → (b ≡ abs) × (new ≡ rest)
family-read true rest b old new ends took left is e = took rest e
family-read false rest b old new ends took left is e = by b refl where
  by : (t : Bool) → b ≡ t → (b ≡ false) × (new ≡ rest)
  by true h = absurd (true≢false (sym ends ∙ ap ends_key (sym e ∙ is h)))
  by false h = (h, left h ∙ e)

-- what an option of a class holds
pub class-some : (o : Option ClassNo) (class : ClassNo) (n : ℕ) → o ≡ Some class → option_map (λ (c : ClassNo). c.0) o ≡ Some n → class.0 ≡ n
class-some o class n e f = some (class.0) n (ap (option_map (λ (c : ClassNo). c.0)) (sym e) ∙ f) where
  some : (a b : ℕ) → Some a ≡ Some b → a ≡ b
  some a b h = cc

pub class-no : (o : Option ClassNo) (n : ℕ) → o ≡ None → option_map (λ (c : ClassNo). c.0) o ≡ Some n → ⊥
class-no o n e f = none n (ap (option_map (λ (c : ClassNo). c.0)) (sym e) ∙ f) where
  none : (b : ℕ) → None ≡ Some b → ⊥
  none b h = cc

-- the class of a key, and the column found
pub class-is : (q : Query) (set : Set) (n : ℕ) (x y : ColRef) (abs : Bool) → HasKeyText q set n → first_in (class_at q.classes.classes n) set ≡ Some x → is_abs (class_at q.classes.classes n).family ≡ abs → y ≡ x → IsClassOf q y abs n
class-is q set n x y abs has first family same = record {
  class = has.class;
  member = subst (λ (z : ColRef). has_member (class_at q.classes.classes n) z ≡ true) (sym same) (in_member (class_at q.classes.classes n) x (found_in (λ (z : ColRef). set z.rel.0) (class_at q.classes.classes n).members x first));
  family = family;
}

pub column-same : (o : Option ColRef) (x y : ColRef) → o ≡ Some y → o ≡ Some x → y ≡ x
column-same o x y e f = some (sym e ∙ f) where
  some : Some y ≡ Some x → y ≡ x
  some h = cc

pub direction-is : (q : Query) (t : ClassTable) (class n : ℕ) (d : Bool × Bool) (bytes : List ℕ) → t ≡ q.classes → class ≡ n → d ≡ ((class_at t.classes class).descending, (class_at t.classes class).nulls_first) → bytes ≡ direction_text d.0 d.1 →
    bytes ≡ direction_text (class_at q.classes.classes n).descending (class_at q.classes.classes n).nulls_first
direction-is q t class n d bytes same is of text =
    let k : class_at t.classes class ≡ class_at q.classes.classes n = ap₂ (λ (u : ClassTable) (m : ℕ). class_at u.classes m) same is in
    text ∙ (ap (λ (e : Bool × Bool). direction_text e.0 e.1) of ∙ ap (λ (c : Class). direction_text c.descending c.nulls_first) k)
