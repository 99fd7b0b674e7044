-- What a built index stands for.
use Rattle.store.specs.declared.built.BuiltIndex.{BuiltIndex}
use Rattle.store.specs.declared.built.BuiltIndex.TheVariants.{Sorted, Hashed}
use Rattle.store.specs.work.Kept.{Built, sorted, hashed}

-- the B-tree or the hash index that a `BuiltIndex` is, with its entries
abbrev pub built : {C F L : Type 0} → BuiltIndex C F L → Built
built (Sorted tree) = sorted tree
built (Hashed table) = hashed table
