use Rattle.std.proofs.Common.{refl}
use Rattle.std.proofs.lemmas.Option.{slice_get_within}
use Rattle.pathkeys.specs.work.Finding.{class_numbers}
use Rattle.plan_check.specs.work.Views.{certificate}
use Rattle.join_cover.proofs.LeastLemmas.{rows-served}
use Rattle.join_cover.proofs.MergeLemmas.{past-within, weaker}
use Rattle.join_cover.proofs.merges.open_from.Goals as goal

pub open_row-requires-clause-outer : goal.open_row-requires-clause-outer
open_row-requires-clause-outer c = let x = c.requires.outer.is in slice_get_within (certificate c.args.j.now.t.now).entries c.args.least.0 x.entry x.stands

pub open_row-requires-clause-inner : goal.open_row-requires-clause-inner
open_row-requires-clause-inner c = let x = c.requires.inner.is in slice_get_within (certificate c.args.j.now.t.now).entries c.args.least.1 x.entry x.stands

pub open_rows-requires-clause-outer : goal.open_rows-requires-clause-outer
open_rows-requires-clause-outer c = past-within _ _ _ _ c.range-within.ensures.past refl

pub open_rows-requires-clause-inner : goal.open_rows-requires-clause-inner
open_rows-requires-clause-inner c = let x = c.requires.inner.is in slice_get_within (certificate c.args.j.now.t.now).entries c.args.least.1 x.entry x.stands

pub returns : goal.returns
returns c =
    let w = c.args.work.now in
    let r = c.range-within in
    weaker c.open_rows.result _ _ _
    (rows-served c.args.j.now.cat.now c.args.j.now.q.now (certificate c.args.j.now.t.now) c.requires.right (class_numbers w.list.now) w.outer.0 w.inner.0 c.args.j.now.places.now c.requires.placed r.result c.args.least.0 c.args.least.1 c.requires.outer c.requires.inner r.ensures.first r.ensures.past c.in_default.ensures) c.open_rows.ensures
