-- Worlds that are lawful, and what may be done in them. Own.
use Rattle.catalog.specs.Contents.{IsLawful}
use Rattle.sql_query.specs.Worlds.{IsWorld, World}

-- the definitions are lawful, and beside each table stand lawful rows of its columns
pub record IsLawfulWorld (w : World) : Type 0 where
  pub contents : IsLawful w.contents
  pub stored : IsWorld w
