use Rattle.std.proofs.Common.{◌≡◌, ◌-◌}
use Rattle.sort_rows.specs.work.Leads.{text_lead}
use Rattle.sort_rows.proofs.leads.text_lead.Given as goal

abbrev pub invariant-loop-n : goal.invariant-loop-n
invariant-loop-n l = text_lead (7 - l.n) l.lead l.rest ≡ text_lead 7 0 l.fn.text
