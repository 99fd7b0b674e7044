use Rattle.std.proofs.Common.{◌≡◌, ◌++◌, map, take}
use Rattle.sql_query.specs.Tuples.{value_at}
use Rattle.sort_rows.specs.work.Columns.{key_at}
use Rattle.sort_rows.specs.work.KeySource.{world_of}
use Rattle.sort_rows.specs.work.Rows.{tuple_of}
use Rattle.sort_rows.proofs.keys.add_key.Given as goal

abbrev pub invariant-loop-column : goal.invariant-loop-column
invariant-loop-column g l = map (λ v. v.now) l.keys.items ≡ map (λ v. v.now) l.fn.keys.items ++ key_at (take l.column-index l.fn.at.columns.now) (value_at (world_of l.fn.at) l.fn.at.q.now (tuple_of l.fn.at.q.now l.fn.at.set l.fn.tuple))
