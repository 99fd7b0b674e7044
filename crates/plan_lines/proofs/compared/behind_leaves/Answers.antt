use Rattle.std.proofs.Common.{ap}
use Rattle.std.specs.Prelude.{option_map}
use Rattle.certificate_entries.specs.explain_Texts.{leaf_line}
use Rattle.plan_lines.proofs.CompareLemmas.{no-item}
use Rattle.plan_lines.proofs.compared.behind_leaves.Goals as goal

pub returns-in_err-left-clause-only : goal.returns-in_err-left-clause-only
returns-in_err-left-clause-only c = λ rest e.
    absurd (no-item (leaf_line c.args.cat.now c.args.depth) c.args.indexes.now c.loop-i.i-index _ c.loop-i.left.now (option_map (λ l. l.now) c.behind_leaf.result) c.loop-i-test.true c.behind_leaf.ensures.only
    (ap (option_map (λ l. l.now)) c.in_err-left.was) rest (c.loop-i.invariant.only rest e))
