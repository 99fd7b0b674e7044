-- Working words beside those of `From`.
use Rattle.std.specs.Prelude.{◌≤◌, length, All}
use Rattle.pg_base.specs.declared.limits.TheConstants.{MOST_RELATIONS}
use Rattle.pg_base.specs.Names.{AreDistinct, IsName}
use Rattle.catalog.specs.Contents.{Contents, IsTable, IsLawfulTable, table_at}
use Rattle.catalog.specs.Range.{Range, aliases}

-- relations that FROM may have named: at most as many as a query has, tables of the catalogue, and no two under the same name
pub record AreRelations (c : Contents) (range : Range) : Type 0 where
  pub few : length range ≤ MOST_RELATIONS
  pub tables : All (λ r. IsTable c r.0) range
  pub lawful : All (λ r. IsLawfulTable (table_at c r.0)) range
  pub distinct : AreDistinct (aliases range)

-- the relations are under names
abbrev pub HaveNames : Range → Type 0
HaveNames range = All (λ r. IsName r.1) range
