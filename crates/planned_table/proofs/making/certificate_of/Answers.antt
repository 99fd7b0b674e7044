use Rattle.std.proofs.Common.{arith}
use Rattle.sql_query.specs.Queries.{width}
use Rattle.planned_table.proofs.MakeLemmas.{as-many}
use Rattle.planned_table.proofs.making.certificate_of.Goals as goal

pub from_vec-requires : goal.from_vec-requires
from_vec-requires c =
    let same = as-many (width c.args.q.now) c.args.listed.now c.in_ok-entries.entries.items c.in_ok-entries.ensures in
    record { few = omega (arith, same, c.if-listed.false) }
