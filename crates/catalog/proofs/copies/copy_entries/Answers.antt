use Rattle.std.proofs.Common.{◌∙◌, sym}
use Rattle.catalog.proofs.CopyLemmas.{copied-entry}
use Rattle.catalog.proofs.copies.copy_entries.Goals as goal

pub loop-n-preserved : goal.loop-n-preserved
loop-n-preserved g c =
    let at = rw c.unwrap.ensures at (sym c.get_index.ensures.entry) in
    copied-entry g.V.Copied.same c.args.map.now.entries c.loop-n.copied.entries c.insert.new.self.entries c.loop-n.n (c.unwrap.result.0.now, c.unwrap.result.1.now) c.in_ok-key.key c.in_ok-value.value c.len-n-end.ensures.unique
    at (c.in_ok-key.ensures.items ∙ c.deref.ensures.value) c.in_ok-value.ensures c.in_ok-insert.ensures.entries c.loop-n.invariant
