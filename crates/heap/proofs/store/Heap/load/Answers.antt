use Rattle.std.proofs.Common.{◌≡◌, ◌+◌, ◌-◌, ◌*◌, List, length, Ok, Err, sym, ap, subst, ◌∙◌, arith}
use Rattle.std.specs.List.{All}
use Rattle.pg_base.specs.declared.limits.TheConstants.{MOST_ROWS}
use Rattle.pg_value.specs.declared.columns.Column.{Column}
use Rattle.heap.specs.Loading.{loaded, records_of, rows_from}
use Rattle.heap.specs.work.Loading.{appended_rows}
use Rattle.heap.specs.Stored.{IsRowOf, Stored}
use Rattle.heap.proofs.RunLemmas.{length-runs_of, times-sum}
use Rattle.heap.proofs.StoredLemmas.{fault-here, load-here, load-lawful}
use Rattle.heap.proofs.store.Heap.load.Goals as goal

pub overflow_sub-room : goal.overflow_sub-room
overflow_sub-room g c =
    let self = c.self.inside in
    omega (arith, c.self.invariant.0.few, length-runs_of (length self.columns) self.count self.values.items)

pub invariant_of-self : goal.invariant_of-self
invariant_of-self g c =
    let self = c.self.inside in
    let same : c.items-columns.result.now ≡ self.columns = c.items-columns.ensures.items in
    let n = c.in-Ok.count in
    let old = self.values.items in
    let new = c.read_rows.new.values.items in
    let each : All (IsRowOf self.columns) (appended_rows self.columns n old new) = subst (λ (cs : List Column). All (IsRowOf cs) (appended_rows cs n old new)) same c.in-Ok.ensures.lawful in
    let long : length new ≡ length old + n * length self.columns = subst (λ (cs : List Column). length new ≡ length old + n * length cs) same c.in-Ok.ensures.count in (
      load-lawful self.columns self.count old c.self.invariant.1 n new c.read_rows.ensures.kept c.self.invariant.0 c.in-Ok.ensures.few each,
      omega (arith, long, c.self.invariant.1, times-sum self.count n (length self.columns)),
    )

pub returns-in-Ok-clause-rows : goal.returns-in-Ok-clause-rows
returns-in-Ok-clause-rows g c =
    let self = c.self.inside in
    let same : c.items-columns.result.now ≡ self.columns = c.items-columns.ensures.items in
    let n = c.in-Ok.count in
    let old = self.values.items in
    let new = c.read_rows.new.values.items in
    let records = records_of c.args.block.now in
    let read : rows_from self.columns (MOST_ROWS - self.count) 1 records ≡ Ok (appended_rows self.columns n old new) =
    subst (λ (cs : List Column). rows_from cs (MOST_ROWS - self.count) 1 records ≡ Ok (appended_rows cs n old new)) same c.in-Ok.ensures.rows in
    ap (λ (s : Stored). loaded s records) (sym c.self.view_is) ∙ load-here self.columns self.count old c.self.invariant.1 records n new c.read_rows.ensures.kept read

pub returns-in-Ok-clause-count : goal.returns-in-Ok-clause-count
returns-in-Ok-clause-count g c =
    let self = c.self.inside in
    omega (arith, length-runs_of (length self.columns) (self.count + c.in-Ok.count) c.read_rows.new.values.items, length-runs_of (length self.columns) self.count self.values.items, ap (λ (s : Stored). length s.rows) c.self.view_is)

pub returns-in-Ok-clause-lawful : goal.returns-in-Ok-clause-lawful
returns-in-Ok-clause-lawful g c = (invariant_of-self g c).0

pub returns-in-Err-clause-fault : goal.returns-in-Err-clause-fault
returns-in-Err-clause-fault g c =
    let self = c.self.inside in
    let same : c.items-columns.result.now ≡ self.columns = c.items-columns.ensures.items in
    let records = records_of c.args.block.now in
    λ other.
    let read : rows_from self.columns (MOST_ROWS - self.count) 1 records ≡ Err c.in-Err.fault =
    subst (λ (cs : List Column). rows_from cs (MOST_ROWS - self.count) 1 records ≡ Err c.in-Err.fault) same (c.in-Err.ensures.fault other) in
    ap (λ (s : Stored). loaded s records) (sym c.self.view_is) ∙ fault-here self.columns self.count self.values.items c.self.invariant.1 records c.in-Err.fault read
