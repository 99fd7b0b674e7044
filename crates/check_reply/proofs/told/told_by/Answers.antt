use Rattle.std.proofs.Common.{◌≤◌, arith, ap, length, subst, sym}
use Rattle.std.proofs.lemmas.List.{length-map}
use Rattle.plan_check.specs.Limit.{MOST_ENTRIES}
use Rattle.plan_check.specs.work.Views.{certificate, entry, node as seen}
use Rattle.certificate_check.specs.certificate_text_HasText.{HasEntryLine}
use Rattle.check_reply.specs.Checked.{IsToldBy}
use Rattle.check_reply.proofs.TellLemmas.{told, told-line}
use Rattle.check_reply.proofs.told.told_by.Goals as goal

pub returns-clause-told : goal.returns-clause-told
returns-clause-told c =
    let cat = c.args.cat.now in
    let q = c.args.q.now in
    let t = certificate c.args.t.now in
    let node = c.args.node.now in
    let x = c.args.x in
    let s = c.in_ok-shape.shape in
    let u = c.requires.uncovered in
    subst (IsToldBy cat q t node x.startup x.cost x.rows) (sym c.with_numbers.ensures)
    (told cat q t node x.startup x.cost x.rows u s.set s.param (seen s.node) s.keys (c.in_ok-shape.ensures u.plan u.stands u.candidate.built))

pub returns-clause-line : goal.returns-clause-line
returns-clause-line c =
    let cat = c.args.cat.now in
    let q = c.args.q.now in
    let t = certificate c.args.t.now in
    let node = c.args.node.now in
    let x = c.args.x in
    let s = c.in_ok-shape.shape in
    let u = c.requires.uncovered in
    let few : length t.entries ≤ MOST_ENTRIES = let a = c.items.ensures.few in let b = ap length c.items.ensures.list in let d = length-map c.args.t.now.entries entry in omega (arith, a, b, d) in
    subst (HasEntryLine cat q) (sym c.with_numbers.ensures)
    (told-line cat q t node x.startup x.cost x.rows u s.set s.param (seen s.node) s.keys (c.in_ok-shape.ensures u.plan u.stands u.candidate.built) c.requires.bound c.lawful.ensures c.requires.arms few)
