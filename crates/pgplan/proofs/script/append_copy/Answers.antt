use Rattle.pgplan.proofs.TextLemmas.{copied-all}
use Rattle.pgplan.proofs.script.append_copy.Goals as goal

pub returns-clause-text : goal.returns-clause-text
returns-clause-text c =
    copied-all c.push_str.result _ _ _ _ c.args.table.now c.args.draws.now.state c.args.least c.args.below c.args.count c.in_ok-append_head.ensures c.in_ok-append_records.ensures.text c.push_str.ensures.bytes
