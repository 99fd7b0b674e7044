use Rattle.catalog.specs.Contents.{index_name_at}
use Rattle.plan_lines.proofs.ScannedLemmas.{none-mapped}
use Rattle.plan_lines.proofs.bitmap_lines.read_leaf.Goals as goal

pub returns-in_err-behind-clause-only : goal.returns-in_err-behind-clause-only
returns-in_err-behind-clause-only c = λ i is e.
    absurd (none-mapped (λ l. l.now) c.behind.result (index_name_at c.args.cat.now i) c.in_err-behind.was (c.behind.ensures.only (index_name_at c.args.cat.now i) e))
