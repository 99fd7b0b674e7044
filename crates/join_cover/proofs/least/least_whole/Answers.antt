use Rattle.std.proofs.Common.{refl}
use Rattle.std.specs.Prelude.{None, Some}
use Rattle.plan_check.specs.work.Views.{certificate}
use Rattle.join_cover.proofs.LeastLemmas.{least-never, least-some}
use Rattle.join_cover.proofs.MergeLemmas.{least-read}
use Rattle.join_cover.proofs.least.least_whole.Goals as goal

pub returns-in-Some-clause-some : goal.returns-in-Some-clause-some
returns-in-Some-clause-some c =
    let t = certificate c.args.j.now.t.now in
    let r = c.range-within in
    let x = least-read t c.args.j.now.t.now.entries c.items-entries.result.now refl c.items-entries.ensures.list in
    least-some t.entries c.args.set.0 c.args.j.now.places.now c.requires.placed r.result.0 r.result.1 r.ensures.first r.ensures.past c.in-Some.found (x c.args.set.0 c.args.j.now.places.now r.result.0 r.result.1 (Some c.in-Some.found) c.in-Some.ensures)

pub returns-in-None-clause-none : goal.returns-in-None-clause-none
returns-in-None-clause-none c =
    let t = certificate c.args.j.now.t.now in
    let r = c.range-within in
    let x = least-read t c.args.j.now.t.now.entries c.items-entries.result.now refl c.items-entries.ensures.list in
    least-never t.entries c.args.set.0 c.args.j.now.places.now c.requires.placed r.result.0 r.result.1 r.ensures.first r.ensures.past (x c.args.set.0 c.args.j.now.places.now r.result.0 r.result.1 None c.in-None.ensures)
