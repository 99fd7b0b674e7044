use Rattle.std.proofs.Common.{◌++◌, ap, codes}
use Rattle.std.specs.Prelude.{option_map}
use Rattle.certificate_entries.specs.explain_Texts.{lead, leaf_title}
use Rattle.plan_lines.proofs.CompareLemmas.{two-if, two-none, two-only}
use Rattle.plan_lines.proofs.compared.behind_leaf.Goals as goal

pub returns-in_err-left-clause-only : goal.returns-in_err-left-clause-only
returns-in_err-left-clause-only c = λ rest e.
    absurd (two-none c.args.text.now (lead c.args.depth) (leaf_title c.args.cat.now c.args.i ++ codes "\n") (option_map (λ l. l.now) c.behind_lead.result) c.behind_lead.ensures.only (ap (option_map (λ l. l.now)) c.in_err-left.was) rest e)

pub returns-clause-is : goal.returns-clause-is
returns-clause-is c = two-if c.args.text.now (lead c.args.depth) c.in_ok-left.left.now (leaf_title c.args.cat.now c.args.i ++ codes "\n") c.behind_ended.result c.in_ok-left.ensures.is c.behind_ended.ensures.is

pub returns-clause-only : goal.returns-clause-only
returns-clause-only c =
    two-only c.args.text.now (lead c.args.depth) (leaf_title c.args.cat.now c.args.i ++ codes "\n") c.in_ok-left.left.now (option_map (λ l. l.now) c.behind_lead.result) (option_map (λ l. l.now) c.behind_ended.result) c.behind_lead.ensures.only
    (ap (option_map (λ l. l.now)) c.in_ok-left.was) c.behind_ended.ensures.only
