use Rattle.std.proofs.Common.{rules, []}
use Rattle.ddl_reader.specs.Tables.{data_for}
use Rattle.sql_query.specs.Worlds.{world}
use Rattle.statements.specs.work.Steps.{RefusesDefinition}
use Rattle.statements.proofs.BlockLemmas.{end-within}
use Rattle.statements.proofs.LoadingLemmas.{no-memory, refuses-data, some-looks}
use Rattle.statements.proofs.define.data.Goals as goal

pub slice_bounds-fill-end : goal.slice_bounds-fill-end
slice_bounds-fill-end g c = end-within c.args.text.now c.args.start c.in-Some.end c.in-Some.next c.requires.start c.in-Some.ensures

pub returns-in-Err-clause-refused : goal.returns-in-Err-clause-refused
returns-in-Err-clause-refused g c =
    let w = world c.args.catalog.now c.args.store.now.stored in
    let text = c.args.text.now in
    let t = c.args.table in
    let start = c.args.start in
    let told : RefusesDefinition c.refused_data.result w text (data_for t start) [] = search rules in
    refuses-data c.refused_data.result w text t start c.args.reads.now c.fill.new.reads told
    (λ f is. c.in-Err.ensures.unread (no-memory c.in-Err.refused t start c.refused_data.result f c.refused_data.ensures is))
    (some-looks w text t start c.in-Some.end c.in-Some.next c.args.reads.now c.fill.new.reads c.in-Some.ensures c.in-Err.ensures.fewer)
