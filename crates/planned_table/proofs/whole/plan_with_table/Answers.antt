use Rattle.certificate_laws.specs.plan_laws_WellBoundLemmas.{bound-over}
use Rattle.planned_table.proofs.whole.plan_with_table.Goals as goal

pub whole_table-requires : goal.whole_table-requires
whole_table-requires c = record { query = bound-over c.args.cat.now c.args.q.now c.requires.bound }

pub tabled_of-requires-clause-query : goal.tabled_of-requires-clause-query
tabled_of-requires-clause-query c = bound-over c.args.cat.now c.args.q.now c.requires.bound
