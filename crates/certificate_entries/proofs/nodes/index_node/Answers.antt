use Rattle.std.proofs.Common.{Bool}
use Rattle.pg_base.specs.declared.numbers.IndexNo.{IndexNo}
use Rattle.certificate_text.specs.plan_check_Certificates.{by_index}
use Rattle.pg_base.proofs.OptionLemmas.{none-some-too as none-some}
use Rattle.certificate_entries.proofs.NodeLemmas.{scan-as}
use Rattle.certificate_entries.proofs.nodes.index_node.Goals as goal

pub returns-in_err-index-clause-only : goal.returns-in_err-index-clause-only
returns-in_err-index-clause-only c = λ i b rest has stop e.
    let r = c.read_scan.ensures.only.only (i, b) rest has stop e in
    absurd (none-some {A = IndexNo × Bool} c.read_scan.result (i, b) c.in_err-index.was r.0)

pub returns-clause-only : goal.returns-clause-only
returns-clause-only c = λ i b rest has stop e.
    let r = c.read_scan.ensures.only.only (i, b) rest has stop e in
    (scan-as (λ j d. by_index j d) c.read_scan.result c.in_ok-index.index i c.in_ok-index.backward b c.in_ok-index.was r.0, r.1)
