use Rattle.std.proofs.Common.{Bor, List, ℕ, ◌≡◌, ◌+◌, ◌∙◌, sym, ap, refl, inl, inr, Some, Ok, ◌∷◌, ◌++◌, [], arith, length, length-append}
use Rattle.std.proofs.lemmas.List.Elements.{All-push}
use Rattle.std.proofs.lemmas.Result.{err_from_is_err_and}
use Rattle.csv.specs.Reading.{Reached, default_config, strip_bom}
use Rattle.csv.specs.Records.{fields_of}
use Rattle.csv.specs.declared.parser.State.TheVariants as st
use Rattle.csv.proofs.ReadFacts.{rows-end, rows-more}
use Rattle.heap.specs.Loading.{row, rows_from}
use Rattle.heap.specs.work.Loading.{appended, appended_rows}
use Rattle.heap.specs.Stored.{IsRowOf, Values}
use Rattle.heap.specs.work.Tuples.{runs_of}
use Rattle.heap.proofs.AppendedLemmas.{kept-none, kept-then, longer, rows-push}
use Rattle.heap.proofs.Records.{all_records}
use Rattle.heap.proofs.Rows.{rows-one, rows-refused, zip_length}
use Rattle.heap.proofs.load.read_rows.Goals as goal

pub loop-taken-init : goal.loop-taken-init
unfolding Reached rows_from runs_of
loop-taken-init c =
    let fr = c.from_reader-rdr.ensures in
    let start = c.into_iter-taken-iterator.ensures.into_iter_gives ∙ refl in
    let rdr = c.into_byte_records-taken-items.ensures.rdr in
    let left = c.into_byte_records-taken-items.ensures.left in
    rw (start, rdr) (record {
      trim = rw (c.flexible.ensures, c.has_headers.ensures) at fr.trim ∙ c.new.ensures.trim;
      ready = inr (inr (rw (c.flexible.ensures, c.has_headers.ensures) at fr.has_headers, fr.headers));
      turns = left;
      config = rw (c.flexible.ensures, c.has_headers.ensures) at fr.config ∙ c.new.ensures.config;
      flexible = rw c.flexible.ensures at fr.flexible;
      rest = strip_bom c.args.block.now;
      source = fr.source;
      read = [];
      reached = (sym fr.state, refl);
      place = refl;
      kept = kept-none c.args.values.now.items;
      rows = refl;
      few = omega arith;
      count = omega arith;
      lawful = λ k d lt. absurd (omega arith);
    })

pub loop-taken-preserved : goal.loop-taken-preserved
loop-taken-preserved c =
    let inv = c.loop-taken.invariant in
    let s = rw (c.in-Some.is, c.in-Ok.is) at ((c.next.ensures.steps inv.turns inv.trim).0 inv.ready) in
    let kept = rw (c.in-Some.is, c.in-Ok.is) at (c.next.ensures.steps inv.turns inv.trim).3 in
    let fields = fields_of c.in-Ok.fields in
    let m = rows-more (λ (s : Bor (List ℕ)). Some s.now) c.loop-taken.taken-iterator.rdr c.next.new.self.rdr fields default_config st.StartRecord (strip_bom c.args.block.now) inv.rest inv.read inv.config inv.source inv.reached s.0 in
    let columns = c.args.columns.now in
    let old = c.args.values.now.items in
    let now = c.loop-taken.values.items in
    let new = c.read_row.new.values.items in
    let one : length (appended now new) ≡ length columns = zip_length columns (appended now new) c.in_ok-read_row.ensures.lawful in
    let read : row columns c.args.room (length inv.read + 1) fields ≡ Ok (appended now new) = ap (λ (n : ℕ). row columns c.args.room (n + 1) fields) inv.place ∙ c.in_ok-read_row.ensures.row in
    let put = rows-push columns c.loop-taken.count old now new inv.kept c.read_row.ensures.kept inv.count one in
    record {
      trim = s.0.3 ∙ inv.trim;
      ready = inl s.1;
      turns = s.2;
      config = s.0.2 ∙ inv.config;
      flexible = kept ∙ inv.flexible;
      rest = m.0;
      source = m.1;
      read = inv.read ++ fields ∷ [];
      reached = m.2;
      place = omega (arith, length-append inv.read (fields ∷ []), inv.place);
      kept = kept-then old now new inv.kept c.read_row.ensures.kept;
      rows = rows-one columns c.args.room inv.read (appended_rows columns c.loop-taken.count old now) inv.rows fields (appended now new) read ∙ ap (λ (l : List Values). Ok l) (sym put);
      few = omega (arith, c.in_ok-read_row.ensures.few, inv.few);
      count = longer columns c.loop-taken.count old now new c.read_row.ensures.kept inv.count one;
      lawful = rw put (All-push (IsRowOf columns) (appended_rows columns c.loop-taken.count old now) (appended now new) inv.lawful c.in_ok-read_row.ensures.lawful);
    }

pub returns-in_err-read_row-clause-fault : goal.returns-in_err-read_row-clause-fault
returns-in_err-read_row-clause-fault c =
    let inv = c.loop-taken.invariant in
    let s = rw (c.in-Some.is, c.in-Ok.is) at ((c.next.ensures.steps inv.turns inv.trim).0 inv.ready) in
    let fields = fields_of c.in-Ok.fields in
    let p = err_from_is_err_and c.from_residual.result c.from_residual.ensures.1 in
    let m = rows-more (λ (s : Bor (List ℕ)). Some s.now) c.loop-taken.taken-iterator.rdr c.next.new.self.rdr fields default_config st.StartRecord (strip_bom c.args.block.now) inv.rest inv.read inv.config inv.source inv.reached s.0 in
    rw (p.1, p.2) (λ h.
    rows-refused c.args.columns.now c.args.room (strip_bom c.args.block.now) m.0 c.next.new.self.rdr.state inv.read (appended_rows c.args.columns.now c.loop-taken.count c.args.values.now.items c.loop-taken.values.items) fields c.in_err-read_row.field-0.0 inv.rows m.2
    (ap (λ (n : ℕ). row c.args.columns.now c.args.room (n + 1) fields) inv.place ∙ c.in_err-read_row.ensures.fault h))

pub returns-clause-rows : goal.returns-clause-rows
returns-clause-rows c =
    let inv = c.loop-taken.invariant in
    let s = rw c.in-None.is at ((c.next.ensures.steps inv.turns inv.trim).0 inv.ready) in
    let none = rows-end (λ (s : Bor (List ℕ)). Some s.now) c.loop-taken.taken-iterator.rdr c.next.new.self.rdr [] default_config inv.rest inv.config inv.source s in
    ap (rows_from c.args.columns.now c.args.room 1) (all_records (strip_bom c.args.block.now) inv.rest c.loop-taken.taken-iterator.rdr.state inv.read inv.reached none) ∙ inv.rows
