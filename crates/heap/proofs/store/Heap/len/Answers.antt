use Rattle.std.proofs.Common.{◌∙◌, sym, ap, arith, length}
use Rattle.heap.specs.Stored.{Stored}
use Rattle.heap.proofs.RunLemmas.{length-runs_of}
use Rattle.heap.proofs.store.Heap.len.Goals as goal

pub returns-clause-len : goal.returns-clause-len
returns-clause-len g c =
    let self = c.self.inside in
    sym (length-runs_of (length self.columns) self.count self.values.items) ∙ ap (λ (s : Stored). length s.rows) c.self.view_is

pub returns-clause-few : goal.returns-clause-few
returns-clause-few g c =
    let self = c.self.inside in
    omega (arith, c.self.invariant.0.few, length-runs_of (length self.columns) self.count self.values.items)
