use Rattle.std.proofs.Common.{ap, codes}
use Rattle.std.specs.Prelude.{option_map}
use Rattle.catalog.specs.Contents.{index_name_at}
use Rattle.plan_lines.proofs.CompareLemmas.{two-none}
use Rattle.plan_lines.proofs.compared.behind_leaf_title.Goals as goal

pub returns-in_err-left-clause-only : goal.returns-in_err-left-clause-only
returns-in_err-left-clause-only c = λ rest e.
    absurd (two-none c.args.text.now (codes "Bitmap Index Scan on ") (index_name_at c.args.cat.now c.args.i) (option_map (λ l. l.now) c.behind.result) c.behind.ensures.only (ap (option_map (λ l. l.now)) c.in_err-left.was) rest e)
