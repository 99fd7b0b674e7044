use Rattle.btree_index.specs.work.Adding.{AreAdded}
use Rattle.btree_index.specs.work.Pages.{IsPaged, entries_of}
use Rattle.btree_index.proofs.pages.Pages.add_each.Given as goal

abbrev pub invariant-loop-entry : goal.invariant-loop-entry
invariant-loop-entry l = AreAdded l.keys (entries_of l.fn.self) l.fn.added.items l.entry-iterator.rest.items (entries_of l.self) × IsPaged l.self
