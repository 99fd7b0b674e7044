use Rattle.certificate_check.specs.plan_laws_WellBoundLemmas.{bound-over}
use Rattle.certificate_check.specs.scan_cover_AtomLemmas.{atoms-few}
use Rattle.check_reply.proofs.checked.judged_line.Goals as goal

pub check-verdict-requires-clause-query : goal.check-verdict-requires-clause-query
check-verdict-requires-clause-query c = bound-over c.args.cat.now c.args.q.now c.requires.bound

pub check-verdict-requires-clause-atoms : goal.check-verdict-requires-clause-atoms
check-verdict-requires-clause-atoms c = atoms-few c.args.cat.now c.args.q.now c.requires.bound
