use Rattle.std.proofs.Common.{◌∙◌}
use Rattle.plan_lines.proofs.ScannedLemmas.{bare, first-same}
use Rattle.pg_base.proofs.OptionLemmas.{none-some-too as none-some}
use Rattle.pg_base.specs.declared.numbers.RelNo.{RelNo}
use Rattle.pg_base.specs.declared.rel_set.RelSet.{RelSet}
use Rattle.plan_lines.proofs.scanned.read_relation.Goals as goal

pub returns-in_err-rel-clause-only : goal.returns-in_err-rel-clause-only
returns-in_err-rel-clause-only c = λ r lt e.
    let b = bare c.args.cat.now c.args.q.now r lt in
    absurd (none-some {A = RelNo × RelSet} c.read_scanned.result (r, record { 0 = 0 }) c.in_err-rel.was (c.read_scanned.ensures.only r (record { 0 = 0 }) b.0 (e ∙ b.1)))

pub returns-clause-only : goal.returns-clause-only
returns-clause-only c = λ r lt e.
    let b = bare c.args.cat.now c.args.q.now r lt in
    first-same c.in_ok-rel.rel r c.in_ok-rel.field-0-1 (record { 0 = 0 }) c.read_scanned.result c.in_ok-rel.was (c.read_scanned.ensures.only r (record { 0 = 0 }) b.0 (e ∙ b.1))
