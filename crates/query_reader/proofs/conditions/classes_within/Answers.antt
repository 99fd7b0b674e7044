use Rattle.std.proofs.Common.{map}
use Rattle.pg_expr.specs.work.View.{cond}
use Rattle.query_reader.proofs.ConjunctLemmas.{order-near, pushed-bound, pushed-near, pushed-typed}
use Rattle.query_reader.proofs.conditions.classes_within.Goals as goal

pub build-requires-clause-bound : goal.build-requires-clause-bound
build-requires-clause-bound c =
    pushed-bound c.args.relations.now.contents c.args.relations.now.range (map cond c.args.written.now) c.requires.over c.in_ok-pushed.pushed.items.items c.in_ok-pushed.ensures

pub build-requires-clause-typed : goal.build-requires-clause-typed
build-requires-clause-typed c =
    pushed-typed c.args.relations.now.contents c.args.relations.now.range (map cond c.args.written.now) c.requires.over c.in_ok-pushed.pushed.items.items c.in_ok-pushed.ensures

pub build-requires-clause-rels : goal.build-requires-clause-rels
build-requires-clause-rels c =
    pushed-near c.args.relations.now.contents c.args.relations.now.range (map cond c.args.written.now) c.requires.over c.in_ok-pushed.pushed.items.items c.in_ok-pushed.ensures c.requires.few

pub build-requires-clause-order_rels : goal.build-requires-clause-order_rels
build-requires-clause-order_rels c = order-near c.args.relations.now.contents c.args.relations.now.range c.args.order.now c.requires.few c.requires.order
