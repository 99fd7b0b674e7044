use Rattle.std.proofs.Common.{subst, sym}
use Rattle.plan_check.specs.work.Views.{entry}
use Rattle.plan_check.specs.declared.entry.Entry.{Entry as Entered}
use Rattle.certificate_text.specs.HasText.{HasEntryLine}
use Rattle.certificate_text.proofs.EntryLemmas.{line-at}
use Rattle.certificate_text.proofs.entries.put_entries.Goals as goal

pub put_entry-requires-clause-line : goal.put_entry-requires-clause-line
put_entry-requires-clause-line c =
    let e = c.index-entries-n.result in
    subst (λ (x : Entered). HasEntryLine c.args.cat.now c.args.q.now (entry x)) (sym c.index-entries-n.is)
    (line-at c.args.cat.now c.args.q.now c.args.entries.now c.loop-n.n e c.loop-n-test.true c.requires.lines)
