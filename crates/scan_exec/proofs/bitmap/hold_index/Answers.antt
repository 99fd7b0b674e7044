use Rattle.std.proofs.Common.{ap, length, subst, sym, ◌∙◌}
use Rattle.scan_probes.specs.work.Filters.{lent_conditions}
use Rattle.scan_exec.specs.work.Held.{IsMade}
use Rattle.scan_exec.specs.work.Scene.{AreUsed, tuple_of, world_of}
use Rattle.scan_exec.proofs.HeldLemmas.{made_empty}
use Rattle.scan_exec.proofs.NearLemmas.{all_used}
use Rattle.scan_exec.proofs.SetLemmas.{leaf_is, leaf_looks}
use Rattle.scan_exec.proofs.bitmap.hold_index.Goals as goal

pub mark-requires-clause-used : goal.mark-requires-clause-used
mark-requires-clause-used g c =
    let s = c.args.at.now in
    subst (AreUsed s.cat.now s.q.now s.rel s.param c.args.i) (sym (ap lent_conditions c.deref.ensures.value ∙ c.in_ok-conditions.ensures))
    (all_used s.cat.now s.store.now s.q.now s.rel s.param s.outer.now c.args.given.now c.requires.scene c.args.i)

pub mark-requires-clause-made : goal.mark-requires-clause-made
mark-requires-clause-made g c = subst IsMade (sym c.in_ok-held.ensures) (made_empty c.len-rows.result)

pub returns-in_err-mark-clause-most : goal.returns-in_err-mark-clause-most
returns-in_err-mark-clause-most g c =
    let s = c.args.at.now in
    leaf_looks (world_of s) s.q.now s.rel s.param (tuple_of s) c.args.i (lent_conditions c.deref.result.now) (ap lent_conditions c.deref.ensures.value ∙ c.in_ok-conditions.ensures) c.args.reads.now c.mark.new.reads c.mark.ensures.most

pub returns-clause-most : goal.returns-clause-most
returns-clause-most g c =
    let s = c.args.at.now in
    leaf_looks (world_of s) s.q.now s.rel s.param (tuple_of s) c.args.i (lent_conditions c.deref.result.now) (ap lent_conditions c.deref.ensures.value ∙ c.in_ok-conditions.ensures) c.args.reads.now c.mark.new.reads c.mark.ensures.most

pub returns-clause-held : goal.returns-clause-held
returns-clause-held g c =
    let s = c.args.at.now in
    leaf_is (world_of s) s.q.now s.rel s.param (tuple_of s) c.args.i c.len-rows.result (c.len-rows.ensures.len ∙ ap length c.heap.ensures.rows) c.in_ok-held.held c.mark.new.held c.in_ok-held.ensures
    (lent_conditions c.deref.result.now) (ap lent_conditions c.deref.ensures.value ∙ c.in_ok-conditions.ensures) c.in_ok-mark.ensures.held
