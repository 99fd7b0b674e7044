-- What holds of every index that is read (own).
use Rattle.std.specs.Prelude.{◌≡◌, ◌+◌, ◌≤◌, ℕ, List, length, All}
use Rattle.pg_base.specs.Names.{IsName}
use Rattle.catalog.specs.Contents.{Contents}
use Rattle.catalog.specs.Indexes.{columns_of}
use Rattle.catalog.specs.work.Tables.{Fits}
use Rattle.index_reader.specs.Meaning.{IndexMeant}

-- an index that is read may be passed to the catalogue: it has a name, and fits the table that it is of; its name and each of
-- its columns have a place in the text, and so has its method
pub record IsSound (cat : Contents) (text : List ℕ) (r : IndexMeant) : Type 0 where
  pub name : IsName r.name
  pub fits : Fits cat r.index
  pub places : length r.at ≡ length (columns_of r.index) + 1
  pub within : All (λ a. a ≤ length text) r.at
  pub method : r.method ≤ length text
