use Rattle.pg_base.specs.Sets.{has as member}
use Rattle.certificate_entries.proofs.NodeLemmas.{merge-behind, of-bits, of-index, of-nest}
use Rattle.certificate_entries.proofs.nodes.read_behind.Goals as goal

pub returns-in-Index-clause-has : goal.returns-in-Index-clause-has
returns-in-Index-clause-has c = of-index c.args.cat.now c.args.q.now (member c.args.set.0) c.index_node.result c.index_node.ensures.has

pub returns-in-IndexOnly-clause-has : goal.returns-in-IndexOnly-clause-has
returns-in-IndexOnly-clause-has c = of-index c.args.cat.now c.args.q.now (member c.args.set.0) c.index_only_node.result c.index_only_node.ensures.has

pub returns-in-Bitmap-clause-has : goal.returns-in-Bitmap-clause-has
returns-in-Bitmap-clause-has c = of-bits c.args.cat.now c.args.q.now (member c.args.set.0) c.bitmap_node.result c.bitmap_node.ensures.has

pub returns-in-Nest-clause-has : goal.returns-in-Nest-clause-has
returns-in-Nest-clause-has c = of-nest c.args.cat.now c.args.q.now (member c.args.set.0) c.nest_node.result c.nest_node.ensures.has

pub returns-in-Merge-clause-only : goal.returns-in-Merge-clause-only
returns-in-Merge-clause-only c = merge-behind c.args.cat.now c.args.q.now c.args.set c.args.at.now c.args.at.now c.merge_node.new.at c.merge_node.result c.args.kind c.in-Merge.is c.merge_node.ensures.only
