-- A writer of csv over one row after another: how it is set up, where it stands, and one field more. Own.
use Rattle.std.specs.Prelude.{ℕ, ◌≡◌, ◌==◌, ◌+◌, ◌-◌, ◌^◌, true, false, not, min, List, [], ◌++◌, length, Option}
use Rattle.std.specs.Io.KnownBytes.{Appends}
use Rattle.csv.specs.Writing.{default_writer, field_text, fields_written, has_written, next_sep, text_written, with_flexible, writer_pending, writer_setup}
use Rattle.csv.specs.declared.writer.Writer.{Writer}
use Rattle.csv.specs.declared.writer.WriterBuilder.{WriterBuilder}

-- the defaults, but that rows may differ in length
abbrev pub row_writer : WriterBuilder
row_writer = with_flexible default_writer true

-- between two records, with nothing held back
pub record IsBetween {W : Type 0} (w : Writer W) : Type 0 where
  pub setup : writer_setup w ≡ row_writer
  pub fields : fields_written w ≡ 0
  pub clean : has_written w ≡ false
  pub sent : writer_pending w ≡ []

-- from one state of a writer to a later one these bytes were written
abbrev pub HasNewText : {W : Type 0} → (W → Option (List ℕ)) → Writer W → Writer W → List ℕ → Type 0
HasNewText contents old new bytes = Appends (text_written contents old) (text_written contents new) bytes

-- from one state of a writer to a later one this field was written, behind the delimiter where it is not the first of its record
pub record HasField {W : Type 0} (contents : W → Option (List ℕ)) (old new : Writer W) (field : List ℕ) : Type 0 where
  pub setup : writer_setup new ≡ row_writer
  pub text : Appends (text_written contents old) (text_written contents new) (next_sep row_writer (fields_written old) ++ field_text row_writer field)
  pub count : fields_written new ≡ min (fields_written old + 1) (2 ^ 64 - 1)
  pub first : has_written old ≡ false → has_written new ≡ not (length (field_text row_writer field) == 0)
  pub later : has_written old ≡ true → has_written new ≡ true
