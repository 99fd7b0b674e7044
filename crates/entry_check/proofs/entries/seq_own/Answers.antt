use Rattle.std.proofs.Common.{ap, sym}
use Rattle.std.specs.Prelude.{option_map}
use Rattle.sql_query.specs.Queries.{width}
use Rattle.plan_tree.specs.Plans.{seq}
use Rattle.plan_check.specs.Certificates.{relation_in}
use Rattle.plan_check.specs.work.Views.{entry}
use Rattle.entry_check.proofs.ScanLemmas.{made-by, made-none}
use Rattle.entry_check.proofs.entries.seq_own.Goals as goal

pub returns-in-Some : goal.returns-in-Some
returns-in-Some c =
    made-by c.args.cat.now c.args.q.now (option_map seq (relation_in (width c.args.q.now) c.args.e.now.set)) (seq c.in-Some.r) (entry c.args.e.now) c.own_seq.result
    (ap (option_map seq) (sym c.in-Some.ensures.relation)) c.own_seq.ensures

pub returns-in-None : goal.returns-in-None
returns-in-None c =
    made-none c.args.cat.now c.args.q.now (option_map seq (relation_in (width c.args.q.now) c.args.e.now.set)) (entry c.args.e.now) (ap (option_map seq) (sym c.in-None.ensures.relation))
