-- Candidate indexes and queries over a catalogue. Own.
use Rattle.std.specs.Prelude.{◌≤◌, List, length, All}
use Rattle.pg_base.specs.declared.limits.TheConstants.{MOST_QUERIES}
use Rattle.catalog.specs.Contents.{Contents, NamedIndex}
use Rattle.sql_query.specs.Queries.{Query}
use Rattle.sql_query.specs.WellBound.{IsWellBound}
use Rattle.catalog.specs.work.Candidates.{AreCandidateIndexes}

-- a catalogue, indexes that may be added to it, and queries over it
pub record Proposal : Type 0 where
  pub contents : Contents
  pub candidates : List NamedIndex
  pub queries : List Query

-- the candidates may be made together, and the queries are not too many, each well bound
pub record IsProposal (p : Proposal) : Type 0 where
  pub candidates : AreCandidateIndexes p.contents p.candidates
  pub few : length p.queries ≤ MOST_QUERIES
  pub bound : All (IsWellBound p.contents) p.queries
