use Rattle.std.proofs.Common.{rules, ◌≡◌, ◌<◌, ◌≤◌, ◌+◌, ◌-◌, ◌^◌, ◌∙◌, [], ℕ, List, length, map, get_or, refl, sym, subst, arith}
use Rattle.std.proofs.lemmas.List.{length-map, take_all}
use Rattle.std.proofs.lemmas.Result.{on_ok_weaker}
use Rattle.std.specs.Io.KnownBytes.{Appends}
use Rattle.csv.specs.Writing.{has_written, is_blank, text_written}
use Rattle.csv.proofs.WriteFacts.{appends-more, appends-none, blank-step, row-step}
use Rattle.pg_value.specs.declared.value.SqlType.TheVariants.{Int2}
use Rattle.reply_text.specs.Texts.{field_text, field_texts}
use Rattle.reply_text.specs.work.Writers.{row_writer}
use Rattle.reply_text.proofs.WriterLemmas.{field-is, printable-at, row-kept, texts-long, types-long}
use Rattle.reply_text.proofs.lines.write_row.Goals as goal

pub loop-n-init : goal.loop-n-init
unfolding is_blank
loop-n-init g c = record {
  setup = c.requires.between.setup;
  count = c.requires.between.fields;
  text = appends-none _;
  blank = rw c.requires.between.clean refl;
}

pub bounds-types-n : goal.bounds-types-n
bounds-types-n g c = omega (arith, c.loop-n-test.true, types-long c.args.types.now c.args.values.now c.requires.printable)

pub write_value-requires-clause-printable : goal.write_value-requires-clause-printable
write_value-requires-clause-printable g c =
    printable-at c.args.types.now c.args.values.now c.requires.printable c.loop-n.n Int2 c.index-values-n.result c.loop-n-test.true c.index-values-n.is

pub loop-n-preserved : goal.loop-n-preserved
loop-n-preserved g c =
    let inv = c.loop-n.invariant in
    let more = c.in_ok-write_value.ensures in
    let i = c.loop-n.n in
    let values = map (λ v. v.now) c.args.values.now in
    let rows = field_texts c.args.types.now values in
    let within : i < length rows = omega (arith, texts-long c.args.types.now values c.requires.printable, length-map c.args.values.now (λ v. v.now), c.loop-n-test.true) in
    let here : get_or rows i [] ≡ field_text (get_or c.args.types.now i Int2) c.index-values-n.result.now =
    field-is c.args.types.now c.args.values.now c.requires.printable i Int2 c.index-values-n.result c.loop-n-test.true c.index-values-n.is in
    let fits : i + 1 ≤ 2 ^ 64 - 1 = search rules in
    record {
      setup = more.setup;
      count = more.count ∙ rw inv.count (omega arith);
      text = (
          let both = appends-more _ _ _ _ _ inv.text (rw inv.count at more.text) in
          let body = rw here at (row-step row_writer rows i within) in
          subst (λ (t : List ℕ). Appends (text_written g.W.Write.contents c.args.writer.now) (text_written g.W.Write.contents c.write_value.new.writer) t) (sym body) both
          );
      blank = blank-step row_writer rows i (has_written c.loop-n.writer) (has_written c.write_value.new.writer) within inv.blank (λ none. rw here (more.first none)) more.later;
    }

pub returns-clause-text : goal.returns-clause-text
returns-clause-text g c =
    let inv = c.loop-n.invariant in
    let i = c.loop-n.n in
    let values = map (λ v. v.now) c.args.values.now in
    let rows = field_texts c.args.types.now values in
    let past : length rows ≤ i = omega (arith, texts-long c.args.types.now values c.requires.printable, length-map c.args.values.now (λ v. v.now), c.loop-n-test.false) in
    let all = take_all i rows past in
    on_ok_weaker c.flush.result
    (λ ok. row-kept _ _ _ _ rows (has_written c.loop-n.writer) i (rw all at inv.text) (rw all at inv.blank) (rw (inv.setup, inv.count) at c.in_ok-end_record.ensures.bytes) c.flush.ensures.bytes)
    c.flush.ensures.pending
