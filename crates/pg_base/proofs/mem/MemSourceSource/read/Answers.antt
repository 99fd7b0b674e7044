use Rattle.std.proofs.Common.{arith, length-drop, sym, ap, ◌∙◌}
use Rattle.std.proofs.lemmas.List.{nil_from_length}
use Rattle.pg_base.specs.work.Memories.{Feed}
use Rattle.pg_base.proofs.Bytes.{given}
use Rattle.pg_base.proofs.mem.MemSourceSource.read.Goals as goal

pub returns-clause-bytes : goal.returns-clause-bytes
returns-clause-bytes c = (
  sym (ap (λ (f : Feed). f.left) c.self.view_is) ∙
      given c.self.inside.bytes.items c.copy_from_slice.new.self _ c.self.inside.at c.min-count.result (omega arith)
      (rw c.deref-2.ensures.value at c.copy_from_slice.ensures.after),
  λ none room. nil_from_length _ (simp length-drop (omega arith)),
)
