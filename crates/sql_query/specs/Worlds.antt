-- What is stored: the definitions of the catalogue, and beside each table its rows. Own.
use Rattle.std.specs.Prelude.{◌≡◌, List, [], length, slice_index_or}
use Rattle.std.specs.List.{AllZip}
use Rattle.catalog.specs.pg_base_numbers_TableNo.{TableNo}
use Rattle.catalog.specs.Contents.{Contents, TableDef, nothing}
use Rattle.heap.specs.Stored.{Stored, IsLawfulData}

-- the catalogue's contents, and what is stored of each table, in order of making
pub record World : Type 0 where
  pub contents : Contents
  pub stored : List Stored

-- a catalogue's contents with what is stored of each table
abbrev pub world : Contents → List Stored → World
world contents stored = record { contents = contents; stored = stored }

-- what is stored of a table is lawful data of its columns, and the catalogue has the number of its rows
pub record Holds (d : TableDef) (s : Stored) : Type 0 where
  pub columns : s.columns ≡ d.columns
  pub loaded : d.loaded ≡ length s.rows
  pub lawful : IsLawfulData s

-- what is stored of each table is lawful data of its columns, and the catalogue has the number of its rows
abbrev pub IsWorld : World → Type 0
IsWorld w = AllZip Holds w.contents.tables w.stored

-- no table
abbrev pub empty_world : World
empty_world = world nothing []

-- what stands where a number is none of a table
abbrev pub nothing_stored : Stored
nothing_stored = record { columns = []; rows = [] }

-- what is stored of a table
abbrev pub stored_at : World → TableNo → Stored
stored_at w t = slice_index_or w.stored t.0 nothing_stored
