-- What holds of every ADVISE that is read (own).
use Rattle.std.specs.Prelude.{◌<◌, ◌≤◌, length, All}
use Rattle.pg_base.specs.declared.limits.TheConstants.{MOST_CANDIDATES, MOST_QUERIES}
use Rattle.catalog.specs.Contents.{Contents}
use Rattle.eq_classes.specs.Holding.{IsClassTable}
use Rattle.sql_query.specs.WellBound.{IsWellBound, given_of}
use Rattle.catalog.specs.work.Candidates.{AreCandidateIndexes}
use Rattle.index_reader.specs.AdviseMeaning.{Asked}

-- the candidates may be made together, and each query may be planned, with the classes of its own conditions and order
pub record IsSound (c : Contents) (a : Asked) : Type 0 where
  pub most : a.most ≤ MOST_CANDIDATES
  pub candidates : AreCandidateIndexes c a.candidates
  pub some : 0 < length a.queries
  pub few : length a.queries ≤ MOST_QUERIES
  pub bound : All (IsWellBound c) a.queries
  pub classes : All (λ q. IsClassTable (given_of c q) q.classes) a.queries
