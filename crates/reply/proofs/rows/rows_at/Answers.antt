use Rattle.std.proofs.Common.{◌∙◌, ap, arith}
use Rattle.sql_query.specs.Queries.{Query}
use Rattle.sql_query.specs.Tuples.{row_at}
use Rattle.sql_query.specs.Worlds.{world}
use Rattle.sort_rows.specs.work.Rows.{relation}
use Rattle.executor.specs.work.Numbers.{numbers}
use Rattle.reply.proofs.RowLemmas.{row_lent, row_within, rows_more, stored_within}
use Rattle.reply.proofs.rows.rows_at.Goals as goal

pub heap-heap-requires : goal.heap-heap-requires
heap-heap-requires g c =
    stored_within c.args.at.now.cat.now c.args.at.now.store.now c.args.at.now.q.now c.items-range.result.now c.loop-n.n _ (c.items-range.ensures ∙ ap (λ (x : Query). x.range) c.q.view_is) c.loop-n-test.true
    c.requires.setting.bound c.requires.setting.store

pub look-requires : goal.look-requires
look-requires g c =
    let range = c.items-range.ensures ∙ ap (λ (x : Query). x.range) c.q.view_is in
    row_within c.args.at.now.cat.now c.args.at.now.store.now c.args.at.now.q.now c.items-range.result.now c.loop-n.n _ range c.loop-n-test.true c.args.tuple.now _ c.heap-heap.result.now c.requires.tuple c.heap-heap.ensures

pub loop-n-preserved : goal.loop-n-preserved
loop-n-preserved g c =
    let range = c.items-range.ensures ∙ ap (λ (x : Query). x.range) c.q.view_is in
    record {
      rows = rows_more (λ k. row_at (world c.args.at.now.cat.now c.args.at.now.store.now.stored) c.args.at.now.q.now (numbers c.args.tuple.now) (relation k)) c.loop-n.rows.items _ c.look.result c.loop-n.n c.in_ok-push.ensures.items
          (row_lent c.args.at.now.cat.now c.args.at.now.store.now c.args.at.now.q.now c.items-range.result.now c.loop-n.n _ range c.loop-n-test.true c.args.tuple.now _ c.heap-heap.result.now c.look.result.now c.requires.tuple c.heap-heap.ensures c.look.ensures.row)
          c.loop-n.invariant.rows;
      reads = omega (arith, c.look.ensures.cost, c.loop-n.invariant.reads);
    }
