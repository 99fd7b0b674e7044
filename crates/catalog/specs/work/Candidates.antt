-- Working words beside those of `Candidates`.
use Rattle.std.specs.Prelude.{◌≡◌, ◌≤◌, ℕ, true, List, length, map, All}
use Rattle.pg_base.specs.declared.limits.TheConstants.{MOST_CANDIDATES, MOST_INDEXES}
use Rattle.pg_base.specs.declared.numbers.TableNo.{TableNo}
use Rattle.pg_base.specs.Names.{AreDistinct, IsName}
use Rattle.catalog.specs.Contents.{Contents, NamedIndex, indexes_of}
use Rattle.catalog.specs.Indexes.{AreDifferentColumns, columns_of, has_form}
use Rattle.catalog.specs.Tables.{IsUnused}
use Rattle.catalog.specs.work.Tables.{Fits}
use Rattle.catalog.specs.Candidates.{with_candidates}

-- the names of some indexes
abbrev pub names_of : List NamedIndex → List (List ℕ)
names_of xs = map (λ x. x.name) xs

-- an index that CREATE INDEX would make, where its table has room
pub record IsCandidateIndex (c : Contents) (x : NamedIndex) : Type 0 where
  pub name : IsName x.name
  pub fits : Fits c x.index
  pub free : IsUnused c x.name
  pub distinct : AreDifferentColumns (columns_of x.index)
  pub form : has_form x.index ≡ true

-- candidates that may be made together: not too many, each one that may be made, no two of the same name, and with them no
-- table has more indexes than it may have
pub record AreCandidateIndexes (c : Contents) (candidates : List NamedIndex) : Type 0 where
  pub few : length candidates ≤ MOST_CANDIDATES
  pub each : All (IsCandidateIndex c) candidates
  pub apart : AreDistinct (names_of candidates)
  pub room : (t : TableNo) → length (indexes_of (with_candidates c candidates) t) ≤ MOST_INDEXES
