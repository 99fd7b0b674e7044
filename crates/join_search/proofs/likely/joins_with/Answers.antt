use Rattle.join_search.proofs.FrontingLemmas.{outside-is}
use Rattle.join_search.proofs.likely.joins_with.Goals as goal

pub joins_either-requires : goal.joins_either-requires
joins_either-requires c = record {
  at = record {
    query = c.requires.task.query;
    whole = c.requires.task.whole;
    order = c.requires.task.order;
    placed = c.requires.placed;
    rows = c.set_rows-rows.ensures.rows;
    outside = outside-is c.args.task.now.q.now c.args.set c.all_relations-all.result c.minus-outside.result c.all_relations-all.ensures c.minus-outside.ensures;
  };
}
