use Rattle.std.proofs.Common.{◌≡◌, ◌≤◌, ◌+◌, ℕ, List, [], length, map, sym, ap, subst, ◌∙◌, arith, Ok, Err}
use Rattle.std.proofs.lemmas.List.{length-map}
use Rattle.plan_check.specs.work.Views.{entry}
use Rattle.certificate_entries.specs.work.Reading.{IsBad, IsEntryRead, IsRead}
use Rattle.certificate_reader.specs.Faults.{IsFaultLine}
use Rattle.certificate_reader.specs.work.Reading.{IsReadSoFar, head_lines}
use Rattle.certificate_reader.proofs.PlainLemmas.{plain-line}
use Rattle.certificate_reader.proofs.ReadingLemmas.{bad-line, entry-read, fault-is-none, few-entries, no-line, nothing-read}
use Rattle.certificate_reader.proofs.block.read_lines.Goals as goal

pub loop-line-init : goal.loop-line-init
loop-line-init g c =
    subst (λ (es : List _). IsReadSoFar c.args.cat.now c.args.q.now c.args.block.now (map entry es) c.args.start.now) (sym c.new-entries.ensures.items) (nothing-read c.args.cat.now c.args.q.now c.args.block.now c.args.start.now c.requires.start)

pub loop-line-preserved : goal.loop-line-preserved
loop-line-preserved g c =
    let contents = c.args.cat.now in
    let q = c.args.q.now in
    let es = map entry c.loop-line.entries.items in
    let few = few-entries contents q c.args.block.now es c.loop-line.left.now c.loop-line.invariant in
    let same = length-map c.loop-line.entries.items entry in
    let len = c.len.ensures in
    let is : c.len.result ≡ length es = omega (arith, same, len) in
    let r = subst (IsRead contents q (c.len.result + 1) c.in-Some.line.now) (ap Ok c.in-Ok-Entry.field-0-is) c.in-Ok-Entry.ensures.read in
    let most = c.requires.few in
    let e = entry c.in-Ok-Entry.made in
    let next = entry-read contents q (plain-line contents q c.lawful.ensures c.requires.bound) c.args.block.now es c.loop-line.left.now c.in-Some.line.now c.in-Some.rest.now e c.loop-line.invariant c.in-Some.ensures.line.0 c.in-Some.ensures.line.1
    (subst (λ n. IsEntryRead contents q (n + 1) c.in-Some.line.now e) is r) (omega (arith, few, most)) in
    subst (λ (xs : List _). IsReadSoFar contents q c.args.block.now xs c.in-Some.rest.now) (sym c.in_ok-push-in-Ok-Entry.ensures) next

pub line_number-requires : goal.line_number-requires
line_number-requires g c =
    let few = few-entries c.args.cat.now c.args.q.now c.args.block.now (map entry c.loop-line.entries.items) c.loop-line.left.now c.loop-line.invariant in
    let same = length-map c.loop-line.entries.items entry in
    let most = c.requires.few in
    let is = c.len-in-Err-Bad.ensures in
    record { few = omega (arith, few, same, most, is) }

pub returns-in-Err-Bad : goal.returns-in-Err-Bad
returns-in-Err-Bad g c =
    let contents = c.args.cat.now in
    let q = c.args.q.now in
    let es = map entry c.loop-line.entries.items in
    let same = length-map c.loop-line.entries.items entry in
    let len = c.len.ensures in
    let len' = c.len-in-Err-Bad.ensures in
    let line = c.line_number.ensures in
    let first : c.len.result ≡ length es = omega (arith, same, len) in
    let is : (head_lines q.window + length es) + 1 ≡ c.line_number.result = omega (arith, same, len', line) in
    let r = subst (IsRead contents q (c.len.result + 1) c.in-Some.line.now) (ap Err c.in-Err-Bad.field-0-is) c.in-Err-Bad.ensures.read in
    let found = bad-line contents q (plain-line contents q c.lawful.ensures c.requires.bound) c.args.block.now es c.loop-line.left.now c.in-Some.line.now c.in-Some.rest.now c.loop-line.invariant c.in-Some.ensures.line.0 c.in-Some.ensures.line.1
    (subst (λ n. IsBad contents q (n + 1) c.in-Some.line.now) first r) in
    let at = subst (IsFaultLine contents q c.args.block.now) is found in
    (at, fault-is-none contents q c.args.block.now c.line_number.result at)

pub line_number-requires-2 : goal.line_number-requires-2
line_number-requires-2 g c =
    let few = few-entries c.args.cat.now c.args.q.now c.args.block.now (map entry c.loop-line.entries.items) c.loop-line.left.now c.loop-line.invariant in
    let same = length-map c.loop-line.entries.items entry in
    let most = c.requires.few in
    let is = c.len-2.ensures in
    record { few = omega (arith, few, same, most, is) }

pub returns : goal.returns
returns g c =
    let contents = c.args.cat.now in
    let q = c.args.q.now in
    let es = map entry c.loop-line.entries.items in
    let same = length-map c.loop-line.entries.items entry in
    let len = c.len-2.ensures in
    let line = c.line_number-2.ensures in
    let is : (head_lines q.window + length es) + 1 ≡ c.line_number-2.result = omega (arith, same, len, line) in
    let at = subst (IsFaultLine contents q c.args.block.now) is (no-line contents q (plain-line contents q c.lawful.ensures c.requires.bound) c.args.block.now es c.loop-line.left.now c.loop-line.invariant c.in_default.ensures.none) in
    (at, fault-is-none contents q c.args.block.now c.line_number-2.result at)
