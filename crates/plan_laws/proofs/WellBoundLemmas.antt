-- A well bound query is over tables.
use Rattle.std.proofs.Common.{arith}
use Rattle.catalog.specs.Contents.{Contents}
use Rattle.sql_query.specs.Queries.{Query}
use Rattle.sql_query.specs.WellBound.{IsWellBound}
use Rattle.plan_laws.proofs.FewLemmas.{atoms_few}
use Rattle.plan_laws.proofs.OverLemmas.{clauses_over}
use Rattle.plan_tree.specs.work.Reads.{IsOverTables}

pub bound-over : (c : Contents) (q : Query) → IsWellBound c q → IsOverTables c q
bound-over c q h =
    let few = h.range.few in
    record { tables = h.range.tables; few = omega (arith, few); clauses = clauses_over c q h; atoms = atoms_few c q h }
