use Rattle.query_reader.specs.work.Scope.{visible_in}
use Rattle.query_reader.proofs.OrderLemmas.{column-words, item-read, item-stopped}
use Rattle.query_reader.proofs.order.order_item.Goals as goal

pub order_column-requires : goal.order_column-requires
order_column-requires c = let (o, rest, ends, is) = c.requires in column-words o rest c.args.from.now ends is

pub returns-in_err-col-clause-read : goal.returns-in_err-col-clause-read
returns-in_err-col-clause-read c = λ o rest ends is.
    let s = c.args.relations.now in
    item-stopped (visible_in s) c.args.select.now o rest c.args.from.now c.order_column.new.from c.order_column.new.from _ c.from_residual.result ends is c.in_err-col.ensures.read c.from_residual.ensures.1

pub returns-clause-read : goal.returns-clause-read
returns-clause-read c = λ o rest ends is.
    let s = c.args.relations.now in
    item-read (visible_in s) c.args.select.now o rest c.args.from.now c.order_column.new.from c.descending-descending.new.from c.nulls_first-nulls_first.new.from c.in_ok-col.col
    c.descending-descending.result c.nulls_first-nulls_first.result ends is c.in_ok-col.ensures.read c.descending-descending.ensures.read c.nulls_first-nulls_first.ensures.read
