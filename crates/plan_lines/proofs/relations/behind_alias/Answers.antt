use Rattle.std.proofs.Common.{ap, codes, cond}
use Rattle.std.specs.Prelude.{option_map}
use Rattle.plan_lines.proofs.ScannedLemmas.{alias-is, alias-only}
use Rattle.plan_lines.proofs.relations.behind_alias.Goals as goal

pub returns-in_err-left-clause-only : goal.returns-in_err-left-clause-only
returns-in_err-left-clause-only c = λ xs rest e.
    absurd (alias-only c.args.is (cond c.args.first (codes " for ") (codes ", ")) c.args.alias.now c.args.text.now (option_map (λ l. l.now) c.behind_item.result) c.if-not-is.false c.behind_item.ensures.only
    (ap (option_map (λ l. l.now)) c.in_err-left.was) xs rest e)

pub returns-clause-is : goal.returns-clause-is
returns-clause-is c =
    alias-is c.args.is (cond c.args.first (codes " for ") (codes ", ")) c.args.alias.now c.args.text.now c.in_ok-left.left.now c.if-not-is.false c.in_ok-left.ensures.is
