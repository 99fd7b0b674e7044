use Rattle.certificate_reader.proofs.PlainLemmas.{plain-line}
use Rattle.certificate_reader.proofs.ReadingLemmas.{fault-is-none, no-head}
use Rattle.certificate_reader.proofs.block.read_block.Goals as goal

pub returns-in-None-clause-fault : goal.returns-in-None-clause-fault
returns-in-None-clause-fault g c =
    let at = no-head c.args.cat.now c.args.q.now (plain-line c.args.cat.now c.args.q.now c.lawful.ensures c.requires.bound) c.args.block.now c.in-None.ensures.none in
    (at, fault-is-none c.args.cat.now c.args.q.now c.args.block.now 1 at)
