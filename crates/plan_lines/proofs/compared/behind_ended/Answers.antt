use Rattle.std.proofs.Common.{ap, codes}
use Rattle.std.specs.Prelude.{option_map}
use Rattle.certificate_entries.specs.explain_Texts.{leaf_title}
use Rattle.plan_lines.proofs.CompareLemmas.{two-if, two-none, two-only}
use Rattle.plan_lines.proofs.compared.behind_ended.Goals as goal

pub returns-in_err-left-clause-only : goal.returns-in_err-left-clause-only
returns-in_err-left-clause-only c = λ rest e.
    absurd (two-none c.args.text.now (leaf_title c.args.cat.now c.args.i) (codes "\n") (option_map (λ l. l.now) c.behind_leaf_title.result) c.behind_leaf_title.ensures.only (ap (option_map (λ l. l.now)) c.in_err-left.was) rest e)

pub returns-clause-is : goal.returns-clause-is
returns-clause-is c = two-if c.args.text.now (leaf_title c.args.cat.now c.args.i) c.in_ok-left.left.now (codes "\n") c.behind.result c.in_ok-left.ensures.is c.behind.ensures.is

pub returns-clause-only : goal.returns-clause-only
returns-clause-only c =
    two-only c.args.text.now (leaf_title c.args.cat.now c.args.i) (codes "\n") c.in_ok-left.left.now (option_map (λ l. l.now) c.behind_leaf_title.result) (option_map (λ l. l.now) c.behind.result) c.behind_leaf_title.ensures.only
    (ap (option_map (λ l. l.now)) c.in_ok-left.was) c.behind.ensures.only
