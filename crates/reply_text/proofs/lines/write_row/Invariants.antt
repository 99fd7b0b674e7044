use Rattle.std.proofs.Common.{◌≡◌, ◌==◌, ◌||◌, ◌&&◌, map, not, take}
use Rattle.std.specs.Io.KnownBytes.{Appends}
use Rattle.csv.specs.Writing.{fields_written, has_written, is_blank, row_body, text_written, writer_setup}
use Rattle.reply_text.specs.Texts.{field_texts}
use Rattle.reply_text.specs.work.Writers.{row_writer}
use Rattle.reply_text.proofs.lines.write_row.Given as goal

abbrev pub invariant-loop-n : goal.invariant-loop-n
invariant-loop-n g l = record {
  setup : writer_setup l.writer ≡ row_writer;
  count : fields_written l.writer ≡ l.n;
  text : Appends (text_written g.W.Write.contents l.fn.writer) (text_written g.W.Write.contents l.writer) (row_body row_writer (take l.n (field_texts l.types (map (λ v. v.now) l.values))));
  blank : is_blank row_writer (take l.n (field_texts l.types (map (λ v. v.now) l.values))) ≡ (not (has_written l.writer) && ((l.n == 0) || (l.n == 1)));
}
