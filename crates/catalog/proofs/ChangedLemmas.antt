-- A table with other sizes and statistics, as its definition.
use Rattle.std.proofs.Common.{◌≡◌, ℕ, List, Some, map}
use Rattle.std.specs.Option.{option_map}
use Rattle.catalog.specs.Contents.{TableDef}
use Rattle.catalog.specs.work.Known.{statistics}
use Rattle.catalog.specs.Statistics.{Statistics}
use Rattle.catalog.specs.declared.table.Sizes.{Sizes}
use Rattle.catalog.specs.declared.table.Table.{Table}
use Rattle.catalog.proofs.EntryLemmas.{keyed}

pub changed : (n : List ℕ) (old new : Table) (z : Sizes) (ss : List Statistics) → new.sizes ≡ Some z → map (option_map statistics) new.stats.items ≡ map Some ss → new.names ≡ old.names → new.columns ≡ old.columns → new.loaded ≡ old.loaded
    → keyed n new ≡ (let d : TableDef = keyed n old in record d { sizes = Some z; stats = map Some ss })
changed n old new z ss sizes stats names columns loaded = λ i. record { name = n; names = names i; columns = columns i; loaded = loaded i; sizes = sizes i; stats = stats i }
