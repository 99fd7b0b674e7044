use Rattle.std.proofs.Common.{rules}
use Rattle.sql_query.specs.Queries.{width}
use Rattle.planned_table.proofs.making.node_of.Goals as goal

pub returns-in-Merge : goal.returns-in-Merge
returns-in-Merge c = let found = c.merge_of.ensures (width c.args.q.now) c.args.p.now.set c.args.p.now.param in search rules
