use Rattle.std.proofs.Common.{ap, sym}
use Rattle.std.specs.Prelude.{option_map}
use Rattle.pg_base.specs.declared.numbers.RelNo.{RelNo}
use Rattle.sql_query.specs.Queries.{width}
use Rattle.plan_tree.specs.Plans.{Plan, bitmap}
use Rattle.plan_tree.specs.work.Views.{bits}
use Rattle.plan_check.specs.Certificates.{relation_in}
use Rattle.plan_check.specs.work.Views.{entry}
use Rattle.entry_check.proofs.ScanLemmas.{made-by, made-none}
use Rattle.entry_check.proofs.entries.bitmap_own.Goals as goal

pub returns-in-Some : goal.returns-in-Some
returns-in-Some c =
    let made : RelNo → Plan = λ r. bitmap r c.args.e.now.param (bits c.args.tree.now) in
    made-by c.args.cat.now c.args.q.now (option_map made (relation_in (width c.args.q.now) c.args.e.now.set)) (made c.in-Some.r) (entry c.args.e.now) c.own_bitmap.result
    (ap (option_map made) (sym c.in-Some.ensures.relation)) c.own_bitmap.ensures

pub returns-in-None : goal.returns-in-None
returns-in-None c =
    let made : RelNo → Plan = λ r. bitmap r c.args.e.now.param (bits c.args.tree.now) in
    made-none c.args.cat.now c.args.q.now (option_map made (relation_in (width c.args.q.now) c.args.e.now.set)) (entry c.args.e.now) (ap (option_map made) (sym c.in-None.ensures.relation))
