-- Rows by a writer whose rows may differ in length: their text is that of the defaults.
use Rattle.std.proofs.Common.{zero, suc, ◌≡◌, ◌<◌, ◌==◌, ◌||◌, ◌&&◌, ◌∙◌, ◌∷◌, [], ℕ, List, Bool, Bor, Option, length, map, get_or, not, arith, ap, refl, sym, subst}
use Rattle.std.proofs.KnownBytes.{Appends-kept}
use Rattle.std.proofs.lemmas.List.{get_or-map, length-map}
use Rattle.std.specs.Io.KnownBytes.{Appends, Keeps}
use Rattle.csv.specs.Writing.{default_writer, escaped, field_text, fields_text, is_blank, row_body, row_text, tail_text}
use Rattle.csv.proofs.WriteFacts.{row-final}
use Rattle.pg_base.proofs.ListLemmas.{zip-at, zip-length}
use Rattle.pg_value.specs.declared.value.SqlType.{SqlType}
use Rattle.pg_value.specs.declared.value.Value.{Value}
use Rattle.reply_text.specs.Texts.{field_text as text_of_value, field_texts}
use Rattle.reply_text.specs.work.Printed.{ArePrintable, IsPrintable}
use Rattle.reply_text.specs.work.Writers.{row_writer}

escaped-same : (field : List ℕ) → escaped row_writer field ≡ escaped default_writer field
unfolding escaped
escaped-same [] = refl
escaped-same (b ∷ rest) = rw (escaped-same rest) refl

field-same : (field : List ℕ) → field_text row_writer field ≡ field_text default_writer field
field-same field = rw (escaped-same field) refl

fields-same : (fields : List (List ℕ)) → fields_text row_writer fields ≡ fields_text default_writer fields
unfolding fields_text
fields-same [] = refl
fields-same (field ∷ rest) = rw (field-same field, fields-same rest) refl

pub row-same : (fields : List (List ℕ)) → row_text row_writer fields ≡ row_text default_writer fields
unfolding is_blank
row-same [] = refl
row-same (field ∷ []) = rw (field-same field, fields-same []) refl
row-same (field ∷ next ∷ rest) = rw (field-same field, fields-same (next ∷ rest)) refl

-- a field for each value, where each has a type
pub texts-long : (ts : List SqlType) (vs : List Value) → ArePrintable ts vs → length (field_texts ts vs) ≡ length vs
texts-long [] [] z = refl
texts-long [] (v ∷ vs) z = absurd z
texts-long (t ∷ ts) [] z = absurd z
texts-long (t ∷ ts) (v ∷ vs) z = ap suc (texts-long ts vs z.1)

-- the field of a value at its place
text-at : (ts : List SqlType) (vs : List Value) (i : ℕ) (t : SqlType) (v : Value) → ArePrintable ts vs → i < length vs
    → get_or (field_texts ts vs) i [] ≡ text_of_value (get_or ts i t) (get_or vs i v)
text-at [] [] i t v z lt = absurd (omega (arith, lt))
text-at [] (w ∷ vs) i t v z lt = absurd z
text-at (u ∷ ts) [] i t v z lt = absurd z
text-at (u ∷ ts) (w ∷ vs) zero t v z lt = refl
text-at (u ∷ ts) (w ∷ vs) (suc i) t v z lt = text-at ts vs i t v z.1 (omega (arith, lt))

-- a value read at its place, with the type there
module _ (types : List SqlType) (values : List (Bor Value)) (printable : ArePrintable types (map (λ v. v.now) values)) where
  pub types-long : length types ≡ length values
  types-long = zip-length IsPrintable types (map (λ v. v.now) values) printable ∙ length-map values (λ v. v.now)

  module _ (i : ℕ) (t : SqlType) (v : Bor Value) (within : i < length values) (is : v ≡ get_or values i v) where
    value-is : get_or (map (λ (x : Bor Value). x.now) values) i v.now ≡ v.now
    value-is = get_or-map (λ (x : Bor Value). x.now) values i v v.now within ∙ ap (λ (x : Bor Value). x.now) (sym is)

    pub field-is : get_or (field_texts types (map (λ (x : Bor Value). x.now) values)) i [] ≡ text_of_value (get_or types i t) v.now
    field-is =
        text-at types (map (λ (x : Bor Value). x.now) values) i t v.now printable (omega (arith, within, length-map values (λ (x : Bor Value). x.now)))
        ∙ ap (text_of_value (get_or types i t)) value-is

    pub printable-at : IsPrintable (get_or types i t) v.now
    printable-at =
        let P : Value → Type 0 = λ x. IsPrintable (get_or types i t) x in
        subst P value-is (zip-at IsPrintable types (map (λ (x : Bor Value). x.now) values) i t v.now printable (omega (arith, within, types-long)))

-- a record that was ended, and whose last bytes were sent
pub row-kept : (base mid ended new : Option (List ℕ)) (fields : List (List ℕ)) (wrote : Bool) (n : ℕ)
    → Appends base mid (row_body row_writer fields) → is_blank row_writer fields ≡ (not wrote && ((n == 0) || (n == 1)))
    → Appends mid ended (tail_text row_writer wrote n) → Keeps ended new → Appends base new (row_text default_writer fields)
row-kept base mid ended new fields wrote n body blank tail kept =
    let P : List ℕ → Type 0 = λ t. Appends base new t in
    subst P (row-same fields) (Appends-kept base ended new _ (row-final base mid ended row_writer fields wrote n body blank tail) kept)
