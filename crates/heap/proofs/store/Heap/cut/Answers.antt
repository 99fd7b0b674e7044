use Rattle.std.proofs.Common.{◌≡◌, ◌≤◌, ◌*◌, ℕ, length, take, sym, ap, ◌∙◌, arith}
use Rattle.heap.specs.Stored.{Stored, Values}
use Rattle.heap.specs.work.Stored.{laid_out}
use Rattle.heap.proofs.RunLemmas.{first-inside, length-runs_of}
use Rattle.heap.proofs.StoredLemmas.{cut-here, cut-lawful, cut_to}
use Rattle.heap.proofs.store.Heap.cut.Goals as goal

pub invariant_of-self : goal.invariant_of-self
invariant_of-self g c =
    let self = c.self.inside in
    let below : c.args.len ≤ self.count = omega (arith, c.requires, length-runs_of (length self.columns) self.count self.values.items, ap (λ (s : Stored). length s.rows) c.self.view_is) in
    let width : c.width-width.result ≡ length self.columns = c.width-width.ensures.width ∙ ap (λ (s : Stored). length s.columns) (sym c.self.view_is) in
    let after : c.truncate.new.self.items ≡ take (c.args.len * length self.columns) self.values.items = c.truncate.ensures.items ∙ ap (λ (w : ℕ). take (c.args.len * w) self.values.items) width in
    rw after (
      cut-lawful self.columns self.count self.values.items c.self.invariant.1 c.args.len below c.self.invariant.0,
      first-inside (length self.columns) self.count c.args.len self.values.items c.self.invariant.1 below,
    )

pub returns-clause-kept : goal.returns-clause-kept
returns-clause-kept g c =
    let self = c.self.inside in
    let below : c.args.len ≤ self.count = omega (arith, c.requires, length-runs_of (length self.columns) self.count self.values.items, ap (λ (s : Stored). length s.rows) c.self.view_is) in
    let width : c.width-width.result ≡ length self.columns = c.width-width.ensures.width ∙ ap (λ (s : Stored). length s.columns) (sym c.self.view_is) in
    let after : c.truncate.new.self.items ≡ take (c.args.len * length self.columns) self.values.items = c.truncate.ensures.items ∙ ap (λ (w : ℕ). take (c.args.len * w) self.values.items) width in
    ap (λ (l : Values). laid_out self.columns c.args.len l) after
    ∙ cut-here self.columns self.count self.values.items c.self.invariant.1 c.args.len below
    ∙ ap (cut_to c.args.len) c.self.view_is

pub returns-clause-lawful : goal.returns-clause-lawful
returns-clause-lawful g c = (invariant_of-self g c).0
