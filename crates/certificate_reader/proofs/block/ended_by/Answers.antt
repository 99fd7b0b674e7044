use Rattle.std.proofs.Common.{◌≡◌, ◌<◌, ◌≤◌, ◌+◌, ◌^◌, ◌==◌, false, true, ℕ, List, length, map, sym, ap, subst, ◌∙◌, arith}
use Rattle.std.specs.Prelude.{Option, None, Some}
use Rattle.std.proofs.lemmas.Bool.Decides.{nat_tests}
use Rattle.std.proofs.lemmas.List.{length-map}
use Rattle.sql_query.specs.declared.window.Window.{Window}
use Rattle.plan_check.specs.Certificates.{Entry}
use Rattle.plan_check.specs.Views.{side}
use Rattle.plan_check.specs.work.Views.{entry}
use Rattle.certificate_reader.specs.Faults.{IsFaultLine, IsCertificateText}
use Rattle.certificate_reader.specs.Reading.{IsBlockRead}
use Rattle.certificate_reader.specs.work.Reading.{head_lines}
use Rattle.certificate_reader.proofs.PlainLemmas.{plain-line}
use Rattle.certificate_reader.proofs.ReadingLemmas.{best-behind, best-read, fault-is-none, few-entries, few-heads}
use Rattle.certificate_reader.proofs.block.ended_by.Goals as goal

some-length : (n : ℕ) → false ≡ (n == 0) → 0 < n
some-length n e = grind (arith, nat_tests, e)

no-length : (n : ℕ) → true ≡ (n == 0) → n ≡ 0
no-length n e = grind (arith, nat_tests, e)

pub line_number-line-requires : goal.line_number-line-requires
line_number-line-requires c =
    let few = few-entries c.args.cat.now c.args.q.now c.args.block.now (map entry c.args.read.0.items) c.requires.at.left c.requires.at.so_far in
    let same = length-map c.args.read.0.items entry in
    let most = c.requires.few in
    let is = c.len.ensures in
    record { few = omega (arith, few, same, most, is) }

pub overflow_add-line : goal.overflow_add-line
overflow_add-line c =
    let few = few-entries c.args.cat.now c.args.q.now c.args.block.now (map entry c.args.read.0.items) c.requires.at.left c.requires.at.so_far in
    let same = length-map c.args.read.0.items entry in
    let most = c.requires.few in
    let is = c.len.ensures in
    let line = c.line_number-line.ensures in
    let heads = few-heads c.args.q.now.window in
    omega (arith, few, same, most, is, line, heads)

pub returns-in_ok-from_vec : goal.returns-in_ok-from_vec
returns-in_ok-from_vec c =
    let contents = c.args.cat.now in
    let q = c.args.q.now in
    let found = best-read contents q (plain-line contents q c.lawful.ensures c.requires.bound) c.args.block.now (map entry c.args.read.0.items) (side c.args.read.1) c.args.rest.now c.requires.at (no-length (length c.args.rest.now) c.if-is_empty.ensures) in
    subst (λ (es : List _). IsBlockRead contents q c.args.block.now (record { entries = map entry es; best = side c.args.read.1 })) (sym c.in_ok-from_vec.ensures.list) found

pub returns-else-is_empty : goal.returns-else-is_empty
returns-else-is_empty c =
    let contents = c.args.cat.now in
    let q = c.args.q.now in
    let same = length-map c.args.read.0.items entry in
    let len = c.len.ensures in
    let line = c.line_number-line.ensures in
    let is : (head_lines q.window + length (map entry c.args.read.0.items)) + 2 ≡ c.line_number-line.result + 1 = omega (arith, same, len, line) in
    let found = best-behind contents q (plain-line contents q c.lawful.ensures c.requires.bound) c.args.block.now (map entry c.args.read.0.items) (side c.args.read.1) c.args.rest.now c.requires.at (some-length (length c.args.rest.now) c.if-is_empty.ensures) in
    let at = subst (IsFaultLine contents q c.args.block.now) is found in
    (at, fault-is-none contents q c.args.block.now (c.line_number-line.result + 1) at)
