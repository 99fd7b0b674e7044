use Rattle.std.proofs.Common.{◌∙◌}
use Rattle.btree_index.specs.work.Pages.{entries_of}
use Rattle.btree_index.proofs.AddingLemmas.{taken_back}
use Rattle.btree_index.proofs.pages.Pages.add_behind.Goals as goal

pub returns-in-Err-clause-refused : goal.returns-in-Err-clause-refused
returns-in-Err-clause-refused c =
    let first = c.add_each.ensures.first in
    c.keep_rows.ensures.kept
    ∙ taken_back c.args.keys.now c.args.above (entries_of c.args.self.now) c.args.added.items first.0 (entries_of c.add_each.new.self) c.requires.order c.requires.below c.requires.from first.1
