use Rattle.std.proofs.Common.{◌≡◌, true, [], ◌∷◌, ◌<◌, ◌+◌, Result, drop, length, sym, ap, ◌∙◌, arith, rules}
use Rattle.std.specs.Result.{is_ok}
use Rattle.std.proofs.lemmas.Result.{err_from_is_err_and}
use Rattle.csv.specs.Records.{fields_of}
use Rattle.pg_value.specs.declared.value.Value.{Value}
use Rattle.heap.specs.declared.fault.CopyFault.{CopyFault}
use Rattle.heap.specs.Loading.{first_fault_or_all, values_from}
use Rattle.heap.specs.work.Loading.{appended}
use Rattle.heap.specs.Stored.{Values}
use Rattle.heap.proofs.Rows.{row_full, row_arity, row_values, values-more, values-all, prepended, prepended-more, prepended-none, zip-more}
use Rattle.heap.proofs.AppendedLemmas.{appended-none, appended-push, kept-none, kept-push}
use Rattle.heap.proofs.load.read_row.Goals as goal

pub returns-then-before-room-clause-fault : goal.returns-then-before-room-clause-fault
returns-then-before-room-clause-fault c = λ _. row_full c.args.columns.now c.args.room (c.args.before + 1) (fields_of c.args.fields.now) (omega arith)

pub returns-then-len-columns-clause-fault : goal.returns-then-len-columns-clause-fault
returns-then-len-columns-clause-fault c = λ _. row_arity c.args.columns.now c.args.room (c.args.before + 1) (fields_of c.args.fields.now) (omega arith) (λ e. c.if-len-columns.true (c.len.ensures ∙ e))

pub returns-in_err-value-clause-fault : goal.returns-in_err-value-clause-fault
returns-in_err-value-clause-fault c =
    let p = err_from_is_err_and c.from_residual.result c.from_residual.ensures.1 in
    let fields = fields_of c.args.fields.now in
    let within : c.loop-col.col < length fields = omega (arith, c.len.ensures) in
    rw (p.1, p.2) (λ h.
    row_values c.args.columns.now c.args.room (c.args.before + 1) fields (omega arith) (omega (arith, c.len.ensures))
    ∙ c.loop-col.invariant.values
    ∙ ap (prepended (appended c.args.values.now.items c.loop-col.values.items)) (values-more (c.args.before + 1) c.loop-col.col c.args.columns.now fields _ c.text_at-text.result.now c.loop-col-test.true within c.text_at-text.ensures
    ∙ ap (λ (r : Result Value CopyFault). first_fault_or_all r (values_from (c.args.before + 1) (c.loop-col.col + 1) (drop (c.loop-col.col + 1) c.args.columns.now) (drop (c.loop-col.col + 1) fields))) (c.in_err-value.ensures.fault h)))

pub loop-col-init : goal.loop-col-init
loop-col-init c =
    let none = appended-none c.args.values.now.items in
    record {
      kept = kept-none c.args.values.now.items;
      values = prepended-none _ ∙ ap (λ (l : Values). prepended l (values_from (c.args.before + 1) 0 c.args.columns.now (fields_of c.args.fields.now))) (sym none);
      lawful = rw none tt;
    }

pub loop-col-preserved : goal.loop-col-preserved
loop-col-preserved c =
    let fields = fields_of c.args.fields.now in
    let within : c.loop-col.col < length fields = omega (arith, c.len.ensures) in
    let good : is_ok c.push.result ≡ true = search rules in
    let items = rw good at c.push.ensures.items in
    let rest = values_from (c.args.before + 1) (c.loop-col.col + 1) (drop (c.loop-col.col + 1) c.args.columns.now) (drop (c.loop-col.col + 1) fields) in
    let old = c.args.values.now.items in
    let now = c.loop-col.values.items in
    let put = appended-push old now (c.in_ok-value.value ∷ []) c.loop-col.invariant.kept in
    rw items (record {
      kept = kept-push old now (c.in_ok-value.value ∷ []) c.loop-col.invariant.kept;
      values = c.loop-col.invariant.values
          ∙ ap (prepended (appended old now)) (values-more (c.args.before + 1) c.loop-col.col c.args.columns.now fields _ c.text_at-text.result.now c.loop-col-test.true within c.text_at-text.ensures
          ∙ ap (λ (r : Result Value CopyFault). first_fault_or_all r rest) c.in_ok-value.ensures.value)
          ∙ prepended-more (appended old now) c.in_ok-value.value rest
          ∙ ap (λ (l : Values). prepended l rest) (sym put);
      lawful = rw put (zip-more c.args.columns.now (appended old now) c.loop-col.col _ c.in_ok-value.value c.loop-col-test.true c.loop-col.invariant.lawful c.in_ok-value.ensures.lawful);
    })

pub returns-clause-row : goal.returns-clause-row
returns-clause-row c =
    let fields = fields_of c.args.fields.now in
    row_values c.args.columns.now c.args.room (c.args.before + 1) fields (omega arith) (omega (arith, c.len.ensures))
    ∙ c.loop-col.invariant.values
    ∙ values-all (c.args.before + 1) c.loop-col.col c.args.columns.now fields (appended c.args.values.now.items c.loop-col.values.items) c.loop-col-test.false
