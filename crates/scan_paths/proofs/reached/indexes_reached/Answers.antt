use Rattle.std.proofs.Common.{◌∙◌, List, ap, subst, sym}
use Rattle.std.specs.Prelude.{All, IfOk}
use Rattle.pg_base.specs.declared.numbers.IndexNo.{IndexNo}
use Rattle.catalog.specs.Contents.{indexes_of}
use Rattle.plan_tree.specs.Bitmaps.{IsIndexOn}
use Rattle.scan_paths.specs.work.Reached.{AreReachedBy}
use Rattle.scan_paths.proofs.IndexLemmas.{all-on}
use Rattle.scan_paths.proofs.reached.indexes_reached.Goals as goal

pub each_reached-requires-clause-indexes : goal.each_reached-requires-clause-indexes
each_reached-requires-clause-indexes c =
    let listed = c.indexes.ensures.value ∙ ap (indexes_of c.args.cat.now) c.table_of.ensures.table in
    subst (All (IsIndexOn c.args.cat.now c.args.q.now c.args.r.0)) (sym listed) (all-on c.args.cat.now c.args.q.now c.args.r.0)

pub returns : goal.returns
returns c =
    let listed = c.indexes.ensures.value ∙ ap (indexes_of c.args.cat.now) c.table_of.ensures.table in
    record { reached = subst (λ (is : List IndexNo). IfOk c.each_reached.result (λ found. AreReachedBy c.args.cat.now c.args.q.now c.args.r is found.items)) listed c.each_reached.ensures }
